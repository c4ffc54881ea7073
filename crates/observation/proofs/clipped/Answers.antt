-- The four are the definition's.
use mathlib.Core.Path.{refl}
use Rattle.observation.specs.Frame.{clipped}
use Rattle.observation.proofs.clipped.Goals as goal

pub returns : goal.returns
unfolding clipped
returns c = refl
