use mathlib.Core.Path.{◌≡◌}
use Prim.Native.Nat.{◌≤◌}
use lib.ListN.{length}
use Rattle.sequence.specs.Total.{total}
use Rattle.fixed.specs.Fixed as Fixed
use Rattle.products.specs.Runs.{term}
use Rattle.products.proofs.each.Given as goal

abbrev pub invariant-loop-k : goal.invariant-loop-k
invariant-loop-k l = (l.k ≤ length l.signal) × (l.value ≡ total Fixed.fold l.initial.value (term l.taps l.signal) l.k)
