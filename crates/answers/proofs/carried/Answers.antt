-- The parts are those of the state.
use Rattle.calls.specs.Celp.{carried}
use borrow.Author.Rules.{rules}
use Rattle.answers.proofs.carried.Goals as goal

pub returns : goal.returns
unfolding carried
returns c = search rules
