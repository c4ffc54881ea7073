use mathlib.Core.Path.{◌≡◌}
use Prim.Native.Nat.{◌-◌, ◌<◌}
use lib.ListN.{length}
use Rattle.frequencies.proofs.Insertion.{filled_at}
use Rattle.frequencies.proofs.insert.Given as goal

abbrev pub invariant-loop-j : goal.invariant-loop-j
invariant-loop-j l = (l.j < 10) × (length l.a ≡ 10) × (filled_at l.x l.a l.j ≡ filled_at l.x l.initial.a l.n)

abbrev pub decreases-loop-j : goal.decreases-loop-j
decreases-loop-j l = 9 - l.j
