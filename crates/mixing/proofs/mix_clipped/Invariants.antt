use mathlib.Core.Bool.{Bool}
use mathlib.Core.List.{List}
use mathlib.Core.Path.{◌≡◌}
use Prim.Native.Nat.{ℕ, ◌+◌, ◌≤◌}
use lib.IntN.{ℤ, pos}
use lib.ListN.{get_or}
use Rattle.sequence.specs.Count.{count}
use Rattle.fixed.specs.Fixed as Fixed
use Rattle.half.specs.Core as Spec
use Rattle.mixing.proofs.mix_clipped.Given as goal

-- whether sample n is clipped
abbrev pub test : ℤ → ℤ → List ℤ → List ℤ → ℕ → Bool
test pitch_gain_of code_gain_of innovation predicted n = Fixed.clips (Spec.mixed_sum pitch_gain_of code_gain_of (get_or predicted (0 + n) (pos 0)) (get_or innovation n (pos 0)))

abbrev pub invariant-loop-n : goal.invariant-loop-n
invariant-loop-n l =
    (l.n ≤ 80) × (l.clipped ≡ count (test l.pitch_gain l.code_gain l.innovation l.predicted) l.n)
