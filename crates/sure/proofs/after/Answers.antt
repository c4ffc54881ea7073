-- The test is the definition's.
use borrow.Author.Tests.{lt-ltb, le-ltb}
use Rattle.sure.specs.Sure.{after}
use Rattle.sure.proofs.after.Goals as goal

pub returns-then-mark-lt2 : goal.returns-then-mark-lt2
unfolding after
returns-then-mark-lt2 c = rw (lt-ltb _ _ c.if-mark-lt2.true)

pub returns-else-mark-lt2 : goal.returns-else-mark-lt2
unfolding after
returns-else-mark-lt2 c = rw (le-ltb _ _ c.if-mark-lt2.false, c.through.ensures)
