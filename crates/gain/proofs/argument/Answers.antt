-- Each arm's tests decide the definition's two.
use lib.Ieee.{neg, of_bits}
use Rattle.gain.specs.Gain.{argument}
use Rattle.gain.proofs.argument.Goals as goal

pub returns-then-x-2 : goal.returns-then-x-2
unfolding argument of_bits neg
returns-then-x-2 c = rw (c.before.if-x.true, c.if-x-2.true)

pub returns-else-x-2 : goal.returns-else-x-2
unfolding argument of_bits neg
returns-else-x-2 c = rw (c.before.if-x.true, c.if-x-2.false)

pub returns-else-x : goal.returns-else-x
unfolding argument of_bits neg
returns-else-x c = rw c.if-x.false
