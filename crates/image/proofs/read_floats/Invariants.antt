use Prim.Native.Nat.{ℕ, ◌+◌, ◌-◌, ◌*◌, ◌≤◌}
use lib.ListN.{length}
use Rattle.sequence.specs.Table.{Written}
use Rattle.image.specs.Bytes.{number_at}
use lib.Ieee.{binary32, of_bits}
use Rattle.image.proofs.read_floats.Given as goal

abbrev pub invariant-loop-k : goal.invariant-loop-k
invariant-loop-k l = (l.at + 4 * length l.initial.out ≤ length l.bytes) × Written (λ (j : ℕ). of_bits binary32 (number_at 4 l.bytes (l.at + 4 * j))) (length l.initial.out) l.out l.k

abbrev pub decreases-loop-k : goal.decreases-loop-k
decreases-loop-k l = length l.initial.out - l.k
