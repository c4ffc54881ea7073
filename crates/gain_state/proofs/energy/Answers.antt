-- The sum of the squares is below 2 ^ 40, so the cast rounds it once.
use Rattle.gain.specs.Gain.{energy}
use Rattle.gain_state.proofs.energy.Goals as goal

pub returns : goal.returns
unfolding energy
returns c = cc
