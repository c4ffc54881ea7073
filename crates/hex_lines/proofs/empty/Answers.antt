-- Forty zeros, and none counted.
use mathlib.Core.Path.{refl}
use Rattle.stream.specs.Held.{start}
use Rattle.hex_lines.specs.Held.{kept}
use Rattle.hex_lines.proofs.empty.Goals as goal

pub returns : goal.returns
unfolding kept start
returns c = refl
