-- A line more.
use Rattle.tally.specs.Carried.{uncounted}
use Rattle.counting.proofs.uncounted.Goals as goal

pub returns : goal.returns
unfolding uncounted
returns c = rw c.more.ensures
