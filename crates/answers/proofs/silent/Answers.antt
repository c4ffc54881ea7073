-- Each part is that of the definition.
use mathlib.Core.Path.{refl}
use lib.Ieee.{of_bits}
use Rattle.calls.specs.Celp.{silent}
use Rattle.answers.proofs.silent.Goals as goal

pub returns : goal.returns
unfolding silent of_bits
returns c = refl
