-- The taps lie within the words.
use mathlib.Core.Path.{refl}
use Rattle.pitch.specs.Pitch as Pitch
use Rattle.adaptive.proofs.interp.Goals as goal

pub returns : goal.returns
unfolding Pitch.interp
returns c = refl
