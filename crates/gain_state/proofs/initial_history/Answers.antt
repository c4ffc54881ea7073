-- The parts that the calls give are the definition's.
use Rattle.gain.specs.Gain.{initial_history}
use Rattle.gain_state.proofs.initial_history.Goals as goal

pub returns : goal.returns
unfolding initial_history
returns c = cc
