-- Each part is that of the definition.
use mathlib.Core.Path.{refl}
use Rattle.calls.specs.Celp.{unclipped}
use Rattle.answers.proofs.unclipped.Goals as goal

pub returns : goal.returns
unfolding unclipped
returns c = refl
