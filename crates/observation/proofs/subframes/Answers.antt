-- Each is that of the definition.
use Rattle.observation.specs.Frame.{subframes}
use Rattle.observation.proofs.subframes.Goals as goal

pub returns : goal.returns
unfolding subframes
returns c = rw (c.reported.ensures, c.reported-2.ensures, c.reported-3.ensures, c.reported-4.ensures)
