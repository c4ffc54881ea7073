-- As it is.
use mathlib.Core.Path.{refl}
use Rattle.judging.specs.Talk.{begin}
use Rattle.beside.proofs.begin.Goals as goal

pub returns : goal.returns
unfolding begin
returns c = refl
