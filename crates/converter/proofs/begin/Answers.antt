-- An empty line, and it is the first.
use Rattle.converter.specs.Feed.{begin}
use Rattle.converter.proofs.begin.Goals as goal

pub returns : goal.returns
unfolding begin
returns c = rw c.empty-line.ensures
