use mathlib.Core.List.{List}
use mathlib.Core.Path.{◌≡◌}
use Prim.Native.Nat.{ℕ, ◌-◌, ◌+◌, ◌/◌, ◌≤◌}
use lib.IntN.{ℤ, pos}
use lib.ListN.{get_or}
use Rattle.reflection.specs.Reflection as Levinson
use Rattle.levinson.proofs.Paired.{Paired}
use Rattle.levinson.proofs.update_all.Given as goal

-- what the step puts at place n
abbrev pub u : ℕ → ℤ → ℤ → ℤ → List ℤ → ℕ → ℤ
u top kv inverse scale k n = Levinson.updated kv inverse scale (get_or k n (pos 0)) (get_or k (top - 1 - n) (pos 0))

abbrev pub invariant-loop-n : goal.invariant-loop-n
invariant-loop-n l = (l.n ≤ l.pairs) × (l.pairs ≡ (l.top + 1) / 2) × Paired (u l.top l.kv l.inverse l.scale l.initial.k) l.initial.k l.top l.k l.n
