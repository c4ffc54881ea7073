-- The result is the definition's own expression.
use mathlib.Core.Path.{refl}
use Rattle.gain.specs.Gain.{weighted}
use Rattle.gain.proofs.weighted.Goals as goal

pub returns : goal.returns
unfolding weighted
returns c = refl
