use mathlib.Core.List.{List}
use mathlib.Core.Path.{◌≡◌}
use Prim.Native.Nat.{ℕ, ◌-◌, ◌≤◌}
use lib.IntN.{ℤ}
use lib.ListN.{length}
use Rattle.sequence.specs.Repeated.{repeated}
use Rattle.reflection.specs.Reflection as Levinson
use Rattle.reflection.specs.Zeros.{zeros_of}
use Rattle.levinson.proofs.reflection_coefficients.Given as goal

abbrev pub turn : ℕ → List ℤ → List ℤ
turn n = Levinson.step (9 - n)

abbrev pub invariant-loop-n : goal.invariant-loop-n
invariant-loop-n l = (l.n ≤ 9) × (length l.k ≡ 10) × (l.k ≡ repeated turn l.n l.initial.k) × (l.zeros ≡ zeros_of l.initial.k l.n)
