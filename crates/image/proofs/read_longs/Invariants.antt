use Prim.Native.Nat.{ℕ, ◌+◌, ◌-◌, ◌*◌, ◌≤◌}
use lib.ListN.{length}
use Rattle.sequence.specs.Table.{Written}
use Rattle.image.specs.Bytes.{number_at}
use Rattle.image.specs.Image.{signed}
use Rattle.image.proofs.read_longs.Given as goal

abbrev pub invariant-loop-k : goal.invariant-loop-k
invariant-loop-k l = (l.at + 4 * length l.initial.out ≤ length l.bytes) × Written (λ (j : ℕ). signed 4 (number_at 4 l.bytes (l.at + 4 * j))) (length l.initial.out) l.out l.k

abbrev pub decreases-loop-k : goal.decreases-loop-k
decreases-loop-k l = length l.initial.out - l.k
