-- The test is the definition's.
use Rattle.tally.specs.Carried.{more_if}
use Rattle.counting.proofs.more_if.Goals as goal

pub returns-then-counts : goal.returns-then-counts
unfolding more_if
returns-then-counts c = rw c.before.if-counts.true c.more.ensures

pub returns-else-counts : goal.returns-else-counts
unfolding more_if
returns-else-counts c = rw c.if-counts.false
