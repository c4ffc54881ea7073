-- The parts are those of the frame.
use Rattle.calls.specs.Celp.{next}
use borrow.Author.Rules.{rules}
use Rattle.answers.proofs.next.Goals as goal

pub returns : goal.returns
unfolding next
returns c = search rules
