use mathlib.Core.Path.{◌≡◌}
use mathlib.Core.List.{List}
use lib.IntN.{ℤ, pos}
use Prim.Native.Nat.{ℕ, ◌≤◌, ◌+◌}
use Rattle.sequence.specs.Total.{total}
use Rattle.fixed.specs.Fixed as Fixed
use Rattle.synth.specs.Synth as Synth
use Rattle.synthesis_sum.proofs.older.Given as goal

abbrev pub later : List ℤ → List ℤ → ℕ → ℤ
later a h k = Synth.term a h (k + 1)

abbrev pub invariant-loop-k : goal.invariant-loop-k
invariant-loop-k l = (l.k ≤ 9) × (l.sum ≡ total Fixed.fold (pos 0) (later l.a l.history) l.k)
