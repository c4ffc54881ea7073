use mathlib.Core.Bool.{Bool}
use mathlib.Core.List.{List}
use mathlib.Core.Path.{◌≡◌}
use Prim.Native.Nat.{ℕ}
use lib.IntN.{ℤ, pos}
use lib.ListN.{get_or}
use Rattle.sequence.specs.Count.{count}
use Rattle.fixed.specs.Fixed.{clips}
use Rattle.synthesis.proofs.changed.Given as goal

abbrev pub test : List ℤ → ℕ → Bool
test sums n = clips (get_or sums n (pos 0))

abbrev pub invariant-loop-sum : goal.invariant-loop-sum
invariant-loop-sum l = l.clipped ≡ count (test l.sums) l.sum-index
