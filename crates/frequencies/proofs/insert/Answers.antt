-- x inserted at the hole j stays the same list, whatever the turn.
use mathlib.Core.Path.{refl, ◌∙◌}
use Prim.Native.Nat.{◌+◌}
use native.Mathlib.Omega.{arith}
use lib.ListN.{get_or, length-set}
use lib.Ieee.{nan}
use Rattle.frequencies.proofs.Insertion.{hole_up, hole_stop, hole_last}
use borrow.Author.Rules.{rules}
use Rattle.frequencies.proofs.insert.Goals as goal
use Rattle.frequencies.proofs.insert.Goals.{else-loop-j-test, then-loop-j-test+else-a-j}

pub loop-j-init : goal.loop-j-init
loop-j-init c = (search rules, search rules, refl)

pub loop-j-preserved : goal.loop-j-preserved
loop-j-preserved c =
    let at = c.before.before.loop-j in
    let x = get_or c.before.before.before.args.a.now c.before.before.before.args.n nan in
    (omega arith, length-set at.a at.j (get_or at.a (at.j + 1) nan) ∙ at.invariant.1, hole_up x at.a at.j (omega (arith, at.invariant.1)) c.if-a-j.true ∙ at.invariant.2)

pub returns : goal.returns
returns c =
    let at = c.loop-j in
    let x = get_or c.args.a.now c.args.n nan in
    elim c.loop-j-test.branch [
      | else-loop-j-test w ↦ hole_last x at.a at.j (omega (arith, at.invariant.1)) (omega (arith, at.invariant.1, w.loop-j-test.false)) ∙ at.invariant.2
      | then-loop-j-test+else-a-j w ↦ hole_stop x at.a at.j (omega (arith, at.invariant.1, w.loop-j-test.true)) w.if-a-j.false ∙ at.invariant.2
    ]
