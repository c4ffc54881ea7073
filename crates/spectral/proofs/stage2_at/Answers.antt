-- The test on k picks the codebook.
use borrow.Author.Tests.{lt-ltb, le-ltb}
use Rattle.spectral.specs.Spectral.{stage2_at}
use Rattle.spectral.proofs.stage2_at.Goals as goal

pub returns-then-k-lt5 : goal.returns-then-k-lt5
unfolding stage2_at
returns-then-k-lt5 c = rw (lt-ltb _ _ c.before.if-k-lt5.true) c.low.ensures

pub returns-else-k-lt5 : goal.returns-else-k-lt5
unfolding stage2_at
returns-else-k-lt5 c = rw (le-ltb _ _ c.before.if-k-lt5.false) c.high.ensures
