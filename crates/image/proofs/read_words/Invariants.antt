use Prim.Native.Nat.{ℕ, ◌+◌, ◌-◌, ◌*◌, ◌≤◌}
use lib.ListN.{length}
use Rattle.sequence.specs.Table.{Written}
use Rattle.image.specs.Bytes.{number_at}
use Rattle.image.specs.Image.{signed}
use Rattle.image.proofs.read_words.Given as goal

abbrev pub invariant-loop-k : goal.invariant-loop-k
invariant-loop-k l = (l.at + 2 * length l.initial.out ≤ length l.bytes) × Written (λ (j : ℕ). signed 2 (number_at 2 l.bytes (l.at + 2 * j))) (length l.initial.out) l.out l.k

abbrev pub decreases-loop-k : goal.decreases-loop-k
decreases-loop-k l = length l.initial.out - l.k
