-- The parts that the calls give are the definition's.
use Rattle.calls.specs.Celp.{refused}
use Rattle.answers.proofs.refused.Goals as goal

pub returns : goal.returns
unfolding refused
returns c = rw (c.marked.ensures, c.silent.ensures, c.unclipped.ensures)
