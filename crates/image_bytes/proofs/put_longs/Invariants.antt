use Prim.Native.Nat.{◌-◌}
use lib.ListN.{length}
use lib.IntN.{pos}
use Rattle.image.specs.Image.{unsigned}
use Rattle.image_bytes.proofs.Loops.{Stored}
use Rattle.image_bytes.proofs.put_longs.Given as goal

abbrev pub invariant-loop-k : goal.invariant-loop-k
invariant-loop-k l = Stored (unsigned 4) (pos 0) 4 l.longs l.initial.room l.at l.room l.k

abbrev pub decreases-loop-k : goal.decreases-loop-k
decreases-loop-k l = length l.longs - l.k
