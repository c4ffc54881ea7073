-- The tests are those of the definition, in its order.
use mathlib.Core.Path.{sym, ◌∙◌}
use borrow.Author.Tests.{eq-eqb, ne_eqb}
use Rattle.tables.specs.Rules.{tests}
use Rattle.calls.specs.Checks.{checked}
use Rattle.refusals.proofs.Lengths.{wrong_lengths, right_lengths, broken_rule}
use Rattle.refusals.proofs.checked.Goals as goal

pub returns-then-set-eq1 : goal.returns-then-set-eq1
unfolding checked
returns-then-set-eq1 c = rw (wrong_lengths _ _ (sym (c.told-set.ensures ∙ c.check.ensures) ∙ c.if-set-eq1.true))

pub returns-then-sizes-ne0 : goal.returns-then-sizes-ne0
unfolding checked
returns-then-sizes-ne0 c =
    let k = c.told-set.ensures ∙ c.check.ensures in
    rw (right_lengths c.args.words.now c.args.bytes.now c.told-set.result k c.if-set-eq1.false, ne_eqb _ _ c.if-sizes-ne0.true)

pub returns-then-set-ne0 : goal.returns-then-set-ne0
unfolding checked
returns-then-set-ne0 c =
    let w = c.args.words.now in
    let b = c.args.bytes.now in
    let k = c.told-set.ensures ∙ c.check.ensures in
    let one = c.if-set-eq1.false in
    rw (right_lengths w b c.told-set.result k one, eq-eqb _ _ c.if-sizes-ne0.false, broken_rule w b c.told-set.result k one c.if-set-ne0.true)

pub returns-then-not-obeys : goal.returns-then-not-obeys
unfolding checked
returns-then-not-obeys c =
    let w = c.args.words.now in
    let b = c.args.bytes.now in
    let k = c.told-set.ensures ∙ c.check.ensures in
    rw (right_lengths w b c.told-set.result k c.if-set-eq1.false, eq-eqb _ _ c.if-sizes-ne0.false, (tests w b (sym k ∙ c.if-set-ne0.false)).2, ← c.obeys.ensures, c.if-not-obeys.true)

pub returns : goal.returns
unfolding checked
returns c =
    let w = c.args.words.now in
    let b = c.args.bytes.now in
    let k = c.told-set.ensures ∙ c.check.ensures in
    rw (right_lengths w b c.told-set.result k c.if-set-eq1.false, eq-eqb _ _ c.if-sizes-ne0.false, (tests w b (sym k ∙ c.if-set-ne0.false)).2, ← c.obeys.ensures, c.if-not-obeys.false)
