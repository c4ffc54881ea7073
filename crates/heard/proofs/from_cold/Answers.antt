-- The state that a cold start gives, and an empty line.
use Rattle.heard.specs.Start.{begin}
use Rattle.heard.proofs.from_cold.Goals as goal

pub returns : goal.returns
unfolding begin
returns c = rw (c.empty-line.ensures, c.cold_start-r.ensures)
