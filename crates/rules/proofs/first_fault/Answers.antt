-- The loop looks through the rules from 1 on: rule 0 has no place, and is not broken.
use Rattle.std.proofs.Common.{◌+◌, sym, ◌∙◌, arith}
use Rattle.sequence.specs.First.{first_more, first_found, first_none}
use Rattle.rules.specs.declared.Rule.TheVariants.{Limit}
use Rattle.rules.proofs.Rules.{from_one, broken_no, broken_yes, told, nothing_told, numbered}
use Rattle.rules.proofs.first_fault.Goals as goal

pub loop-rule-init : goal.loop-rule-init
loop-rule-init c = (omega arith, from_one _ _)

pub returns-then-k-count : goal.returns-then-k-count
returns-then-k-count c =
    let at = c.loop-rule in
    let i = at.rule-index in
    let t = c.loop-rule-test.true in
    let e = numbered Limit i t in
    let yes = rw e at (broken_yes c.args.words.now c.args.bytes.now _ _ _ c.first_bad-k.ensures c.count.ensures c.if-k-count.true) in
    rw c.number.ensures (told c.args.words.now c.args.bytes.now _ _ _ (rw e (omega arith)) c.first_bad-k.ensures c.place.ensures (at.invariant.1 ∙ first_found _ (i + 1) 7 (omega arith) yes ∙ sym e))

pub loop-rule-preserved : goal.loop-rule-preserved
loop-rule-preserved c =
    let at = c.loop-rule in
    let i = at.rule-index in
    let t = c.loop-rule-test.true in
    let no = rw (numbered Limit i t) at (broken_no c.args.words.now c.args.bytes.now _ _ _ c.first_bad-k.ensures c.count.ensures c.if-k-count.false) in
    (omega arith, at.invariant.1 ∙ first_more _ (i + 1) 7 (omega arith) no)

pub returns : goal.returns
returns c =
    let at = c.loop-rule in
    let t = c.loop-rule-test.false in
    nothing_told _ _ (at.rule-index + 1) (omega arith) (at.invariant.1 ∙ first_none _ (at.rule-index + 1) 7 (omega arith))
