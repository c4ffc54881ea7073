-- A cold start is a start with mark 0.
use Rattle.state.specs.State.{cold_start}
use Rattle.state.proofs.cold_start.Goals as goal

pub returns : goal.returns
unfolding cold_start
returns c = c.started.ensures
