-- Each part is that of the definition.
use mathlib.Core.Path.{refl}
use lib.Ieee.{of_bits}
use Rattle.state.specs.State.{all_zero}
use Rattle.state.proofs.all_zero.Goals as goal

pub returns : goal.returns
unfolding all_zero of_bits
returns c = refl
