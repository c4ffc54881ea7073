-- A reset, and a line more that no figure has.
use Rattle.outcomes.proofs.opened.Goals as goal

pub returns : goal.returns
returns c = rw (c.before.before.reset-whole.ensures, c.uncounted.ensures)
