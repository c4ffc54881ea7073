-- The loop looks through the places below n, which is the count of the rule.
use native.Mathlib.Nat.{sub-zero}
use Rattle.std.proofs.Common.{◌≡◌, sym, ◌∙◌, arith}
use Rattle.sequence.specs.First.{first_more, first_found, first_none}
use borrow.Author.Rules.{rules}
use Rattle.rules.proofs.Rule.first_bad.Goals as goal

pub loop-k-init : goal.loop-k-init
loop-k-init c = (search rules, c.count-n.ensures, rw sub-zero)

pub returns-then-bad : goal.returns-then-bad
returns-then-bad c =
    let at = c.loop-k in
    rw (← at.invariant.1) (sym (at.invariant.2 ∙ first_found _ at.k _ c.loop-k-test.true (sym c.bad.ensures ∙ c.if-bad.true)))

pub loop-k-preserved : goal.loop-k-preserved
loop-k-preserved c =
    let at = c.loop-k in
    (search rules, at.invariant.1, at.invariant.2 ∙ first_more _ at.k _ c.loop-k-test.true (sym c.bad.ensures ∙ c.if-bad.false))

pub returns : goal.returns
returns c =
    let at = c.loop-k in
    let w = at.auto.k-end in
    let t = c.loop-k-test.false in
    let e : c.count-n.result ≡ at.k = omega arith in
    rw (← at.invariant.1) (e ∙ sym (at.invariant.2 ∙ first_none _ at.k _ t))
