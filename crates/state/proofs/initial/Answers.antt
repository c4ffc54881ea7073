-- The parts that the calls give are the definition's.
use lib.Ieee.{of_bits}
use Rattle.state.specs.State.{initial}
use Rattle.state.proofs.initial.Goals as goal

pub returns : goal.returns
unfolding initial of_bits
returns c = rw (c.before.before.lsp_mean-lsp.ensures, c.before.initial-residuals.ensures, c.initial_history-gains.ensures)
