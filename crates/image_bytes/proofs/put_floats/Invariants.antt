use Prim.Native.Nat.{◌-◌}
use lib.ListN.{length}
use lib.Ieee.{binary32, to_bits, nan}
use Rattle.image_bytes.proofs.Loops.{Stored}
use Rattle.image_bytes.proofs.put_floats.Given as goal

abbrev pub invariant-loop-k : goal.invariant-loop-k
invariant-loop-k l = Stored (to_bits binary32) nan 4 l.floats l.initial.room l.at l.room l.k

abbrev pub decreases-loop-k : goal.decreases-loop-k
decreases-loop-k l = length l.floats - l.k
