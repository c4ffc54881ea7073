use Prim.Native.Nat.{◌-◌}
use lib.ListN.{length}
use lib.IntN.{pos}
use Rattle.image.specs.Image.{unsigned}
use Rattle.image_bytes.proofs.Loops.{Stored}
use Rattle.image_bytes.proofs.put_words.Given as goal

abbrev pub invariant-loop-k : goal.invariant-loop-k
invariant-loop-k l = Stored (unsigned 2) (pos 0) 2 l.words l.initial.room l.at l.room l.k

abbrev pub decreases-loop-k : goal.decreases-loop-k
decreases-loop-k l = length l.words - l.k
