-- The tests are those of the definition, in its order.
use borrow.Author.Tests.{eq-eqb, ne_eqb}
use Rattle.calls.specs.Checks.{frame_sizes}
use Rattle.refusals.proofs.frame_sizes.Goals as goal

pub returns-then-room-ne320 : goal.returns-then-room-ne320
unfolding frame_sizes
returns-then-room-ne320 c = rw (ne_eqb _ _ c.if-room-ne320.true)

pub returns-then-payload-ne20 : goal.returns-then-payload-ne20
unfolding frame_sizes
returns-then-payload-ne20 c = rw (eq-eqb _ _ c.before.if-room-ne320.false, ne_eqb _ _ c.if-payload-ne20.true)

pub returns : goal.returns
unfolding frame_sizes
returns c = rw (eq-eqb _ _ c.before.if-room-ne320.false, eq-eqb _ _ c.if-payload-ne20.false)
