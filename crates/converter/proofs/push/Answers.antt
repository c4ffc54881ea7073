-- The test is the definition's.
use borrow.Author.Tests.{lt-ltb, le-ltb}
use Rattle.stream.specs.Held.{push_text, push_count}
use Rattle.converter.specs.Feed.{push}
use Rattle.converter.proofs.push.Goals as goal

pub returns-then-n-lt162 : goal.returns-then-n-lt162
unfolding push push_text push_count
returns-then-n-lt162 c = rw (lt-ltb _ 162 c.if-n-lt162.true)

pub returns : goal.returns
unfolding push push_text push_count
returns c = rw (le-ltb _ 162 c.if-n-lt162.false)
