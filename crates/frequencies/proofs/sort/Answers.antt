-- By turn n the places from n on are sorted, those before it as they were.
use native.Mathlib.Omega.{arith}
use Rattle.frequencies.proofs.Insertion.{sorted_none, sorted_more, sorted_all}
use borrow.Author.Rules.{rules}
use Rattle.frequencies.proofs.sort.Goals as goal

pub loop-n-init : goal.loop-n-init
loop-n-init c = (search rules, search rules, search rules, sorted_none c.args.a 10 (search rules))

pub loop-n-preserved : goal.loop-n-preserved
loop-n-preserved c =
    let at = c.before.before.loop-n in
    (omega arith, search rules, search rules, sorted_more _ at.out c.insert.new.a at.n c.before.loop-n-test.true (omega (arith, at.invariant.1)) at.invariant.3 c.insert.ensures)

pub returns : goal.returns
returns c = let at = c.before.loop-n in sorted_all c.before.before.args.a at.out at.n c.loop-n-test.false at.invariant.3
