-- The shift is the division by a power of two.
use mathlib.Core.Path.{refl}
use Rattle.code_index.specs.Codebook as Codebook
use Rattle.codebook.proofs.added.Goals as goal

pub returns : goal.returns
unfolding Codebook.added
returns c = refl
