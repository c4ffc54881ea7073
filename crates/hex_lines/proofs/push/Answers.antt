-- The test is the definition's.
use borrow.Author.Tests.{lt-ltb, le-ltb}
use Rattle.stream.specs.Held.{push_text, push_count}
use Rattle.hex_lines.specs.Held.{push}
use Rattle.hex_lines.proofs.push.Goals as goal

pub returns-then-n-lt40 : goal.returns-then-n-lt40
unfolding push push_text push_count
returns-then-n-lt40 c = rw (lt-ltb _ 40 c.if-n-lt40.true)

pub returns : goal.returns
unfolding push push_text push_count
returns c = rw (le-ltb _ 40 c.if-n-lt40.false)
