-- A cold start, and a line more that no figure has.
use Rattle.outcomes.proofs.ended.Goals as goal

pub returns : goal.returns
returns c = rw (c.before.before.cold_start-start.ensures, c.uncounted.ensures)
