-- Each turn brings in the test of one more place.
use Rattle.sequence.specs.First.{looked_none, looked_more, looked_end}
use Rattle.std.proofs.Common.{refl}
use Rattle.rules.proofs.some.Goals as goal

pub loop-k-init : goal.loop-k-init
loop-k-init g c = λ p h. looked_none p c.args.n

pub loop-k-preserved : goal.loop-k-preserved
loop-k-preserved g c = λ p h. looked_more p c.args.n c.loop-k.k (c.loop-k.invariant p h) c.loop-k-test.true (h c.loop-k.k c.offends-any.result c.loop-k-test.true c.offends-any.ensures) refl

pub returns : goal.returns
returns g c = λ p h. looked_end p c.args.n c.loop-k.k (c.loop-k.invariant p h) c.loop-k-test.false
