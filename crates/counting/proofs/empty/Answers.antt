-- Of no line every count is 0.
use mathlib.Core.Path.{refl}
use Rattle.sequence.specs.Lists as Lists
use Rattle.sequence.specs.Table.{table}
use Rattle.tally.specs.Figures.{those, largest, smallest, spread, clippings, subframes_of, clipped_of, tally}
use Rattle.counting.proofs.empty.Goals as goal

pub returns : goal.returns
unfolding tally spread clippings subframes_of clipped_of those table largest smallest Lists.tally
returns c = refl
