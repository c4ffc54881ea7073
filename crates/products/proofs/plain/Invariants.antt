use Prim.Native.Nat.{◌≤◌}
use lib.ListN.{length}
use mir.Syntax.{w32}
use mir.Val.{of_z}
use Rattle.products.specs.Runs.{Summed}
use Rattle.products.proofs.plain.Given as goal

abbrev pub invariant-loop-k : goal.invariant-loop-k
invariant-loop-k l = (l.k ≤ length l.signal) × Summed l.taps l.signal (of_z w32 l.sum) l.k
