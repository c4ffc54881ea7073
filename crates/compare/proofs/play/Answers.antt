-- Before the first turn nothing is said.
use Rattle.std.proofs.Common.{arith}
use Rattle.judging.specs.Talk.{begin}
use Rattle.compare.proofs.play.Goals as goal

pub invariant_of-start : goal.invariant_of-start
unfolding begin
invariant_of-start c = record { said = rw c.begin.ensures (omega arith) }
