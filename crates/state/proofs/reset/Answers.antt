-- A reset is a start with mark 2.
use Rattle.state.specs.State.{reset}
use Rattle.state.proofs.reset.Goals as goal

pub returns : goal.returns
unfolding reset
returns c = c.started.ensures
