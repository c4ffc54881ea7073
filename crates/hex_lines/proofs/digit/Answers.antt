-- The test is the definition's.
use borrow.Author.Tests.{lt-ltb, le-ltb}
use native.Mathlib.Omega.{arith}
use Rattle.hex_lines.specs.Text.{digit}
use Rattle.hex_lines.proofs.digit.Goals as goal

pub returns-then-n-lt10 : goal.returns-then-n-lt10
unfolding digit
returns-then-n-lt10 c = rw (lt-ltb _ 10 c.if-n-lt10.true)

pub returns-else-n-lt10 : goal.returns-else-n-lt10
unfolding digit
returns-else-n-lt10 c = rw (le-ltb _ 10 c.if-n-lt10.false) (omega arith)
