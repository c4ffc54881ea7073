-- By the test of the subframe.
use borrow.Author.Tests.{eq-eqb, ne_eqb}
use Rattle.bits.specs.Bits.{gain_index_of}
use Rattle.frame_params.proofs.gain_index.Goals as goal

pub returns-then-sub-eq0 : goal.returns-then-sub-eq0
unfolding gain_index_of
returns-then-sub-eq0 c = simp (eq-eqb _ 0 c.if-sub-eq0.true, c.joined.ensures)

pub returns-else-sub-eq0 : goal.returns-else-sub-eq0
unfolding gain_index_of
returns-else-sub-eq0 c = simp (ne_eqb _ 0 c.if-sub-eq0.false, c.joined-else-sub-eq0.ensures)
