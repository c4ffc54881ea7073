-- A set of another length is refused, and the state is all zero.
use Rattle.tables.specs.Tables.{check}
use Rattle.state.specs.State.{started_by, started, cold_start}
use Rattle.heard.specs.Start.{begin, idle}
use Rattle.heard.proofs.idle.Goals as goal

pub returns : goal.returns
unfolding idle begin cold_start started started_by check
returns c = c.from_cold.ensures
