-- Zeros, and none counted.
use mathlib.Core.Path.{refl}
use Rattle.stream.specs.Held.{start}
use Rattle.converter.specs.Feed.{kept}
use Rattle.converter.proofs.empty.Goals as goal

pub returns : goal.returns
unfolding kept start
returns c = refl
