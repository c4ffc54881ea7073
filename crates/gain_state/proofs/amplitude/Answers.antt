-- The parts that the calls give are the definition's.
use Rattle.gain.specs.Gain.{amplitude}
use Rattle.gain_state.proofs.amplitude.Goals as goal

pub returns : goal.returns
unfolding amplitude
returns c = cc
