-- The parts are those of the definition.
use borrow.Author.Rules.{rules}
use Rattle.observation.specs.Frame.{reported}
use Rattle.observation.proofs.reported.Goals as goal

pub returns : goal.returns
unfolding reported
returns c = rw c.figures-figures.ensures (search rules)
