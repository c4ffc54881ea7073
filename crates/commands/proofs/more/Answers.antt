-- The tests are the definition's.
use native.Mathlib.Omega.{arith}
use borrow.Author.Tests.{lt-ltb, le-ltb}
use Rattle.commands.specs.Commands.{more}
use Rattle.commands.proofs.more.Goals as goal

pub returns-then-c-lt48 : goal.returns-then-c-lt48
unfolding more
returns-then-c-lt48 c = (rw (lt-ltb _ 48 c.if-c-lt48.true), omega arith)

pub returns-then-c-gt57 : goal.returns-then-c-gt57
unfolding more
returns-then-c-gt57 c = (rw (le-ltb _ 48 c.if-c-lt48.false, lt-ltb 57 _ c.if-c-gt57.true), omega arith)

pub returns-then-m-lt-NONE : goal.returns-then-m-lt-NONE
unfolding more
returns-then-m-lt-NONE c = (rw (le-ltb _ 48 c.if-c-lt48.false, le-ltb 57 _ c.if-c-gt57.false) (omega (arith, c.from.ensures, c.if-m-lt-NONE.true)), omega (arith, c.if-m-lt-NONE.true))

pub returns-else-m-lt-NONE : goal.returns-else-m-lt-NONE
unfolding more
returns-else-m-lt-NONE c = (rw (le-ltb _ 48 c.if-c-lt48.false, le-ltb 57 _ c.if-c-gt57.false) (omega (arith, c.from.ensures, c.if-m-lt-NONE.false)), omega arith)
