-- Each arm's test decides the definition's.
use Rattle.gain.specs.Gain.{at_least_one}
use Rattle.gain.proofs.at_least_one.Goals as goal

pub returns-then-e : goal.returns-then-e
unfolding at_least_one
returns-then-e c = rw c.if-e.true

pub returns-else-e : goal.returns-else-e
unfolding at_least_one
returns-else-e c = rw c.if-e.false
