-- By byte i what the bytes before it leave.
use Rattle.std.proofs.Common.{ap, ◌∙◌, add-one, take, get_or, take-suc, take_all}
use Rattle.mending.specs.Repair.{cleaned, bare, any}
use Rattle.mending.specs.Look as Look
use Rattle.mending.specs.Looked.{looked_more}
use Rattle.mending.proofs.look.Goals as goal

pub loop-b-init : goal.loop-b-init
unfolding Look.found cleaned bare any
loop-b-init c = rw c.empty.ensures

pub loop-b-preserved : goal.loop-b-preserved
loop-b-preserved c =
    let l = c.args.line.now in
    let i = c.loop-b.b-index in
    c.look_at.ensures ∙ rw (c.loop-b.invariant, add-one, take-suc l i 0 c.loop-b-test.true) (looked_more (take i l) (get_or l i 0))

pub returns : goal.returns
returns c = c.loop-b.invariant ∙ ap Look.found (take_all c.loop-b.b-index c.args.line.now c.loop-b-test.false)
