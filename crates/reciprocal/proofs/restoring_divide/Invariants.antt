use mathlib.Core.Path.{◌≡◌}
use Prim.Native.Nat.{◌≤◌}
use Rattle.fixed.specs.Fixed as Fixed
use Rattle.reciprocal.proofs.restoring_divide.Given as goal

abbrev pub invariant-loop : goal.invariant-loop
invariant-loop l = (l.counter ≤ l.steps) × (l.n ≡ Fixed.restoring_divide l.num l.den l.counter)
