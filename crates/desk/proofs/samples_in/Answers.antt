-- The tests are those of the definition.
use borrow.Author.Tests.{eq-eqb, ne_eqb, le-leb, lt-leb}
use Rattle.desk_calls.specs.Desk.{samples_in}
use Rattle.desk.proofs.samples_in.Goals as goal

pub returns-then-room-n : goal.returns-then-room-n
unfolding samples_in
returns-then-room-n c = rw (ne_eqb _ _ c.if-room-n.true)

pub returns-then-n-gt64 : goal.returns-then-n-gt64
unfolding samples_in
returns-then-n-gt64 c = rw (eq-eqb _ _ c.if-room-n.false, lt-leb _ _ c.if-n-gt64.true)

pub returns : goal.returns
unfolding samples_in
returns c = rw (eq-eqb _ _ c.if-room-n.false, le-leb _ _ c.if-n-gt64.false)
