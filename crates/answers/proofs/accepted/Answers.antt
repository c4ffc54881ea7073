-- The parts that the calls give are the definition's.
use Rattle.calls.specs.Celp.{accepted}
use Rattle.answers.proofs.accepted.Goals as goal

pub returns : goal.returns
unfolding accepted
returns c = rw (c.next.ensures, c.after-left.ensures, c.raised-after.ensures)
