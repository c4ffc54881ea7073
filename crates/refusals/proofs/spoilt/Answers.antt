-- The two tests are those of the definition: a payload with no padding bit has the fields that were read.
use mathlib.Core.Path.{◌≡◌, ap, ◌∙◌}
use borrow.Author.Tests.{eq-eqb, ne_eqb}
use Rattle.bits.specs.Bits.{fields_of}
use Rattle.observation.specs.Frame as Frame
use Rattle.calls.specs.Checks.{spoilt, in_order}
use Rattle.refusals.proofs.spoilt.Goals as goal

pub returns-then-payload-ne0 : goal.returns-then-payload-ne0
unfolding spoilt
returns-then-payload-ne0 c = rw (ne_eqb _ _ c.if-payload-ne0.true)

pub returns-then-digits_fit : goal.returns-then-digits_fit
unfolding spoilt
returns-then-digits_fit c =
    let p = c.args.payload.now in
    let d = c.digits_fit in
    let digits : d.result ≡ Frame.digits_fit c.args.words.now (fields_of p) = d.ensures ∙ ap (Frame.digits_fit c.args.words.now) (c.requires.fact_3 ∙ in_order p c.requires.fact_2 c.if-payload-ne0.false) in
    rw (eq-eqb _ _ c.if-payload-ne0.false, ← digits, c.if-digits_fit.true)

pub returns : goal.returns
unfolding spoilt
returns c =
    let p = c.args.payload.now in
    let d = c.digits_fit in
    let digits : d.result ≡ Frame.digits_fit c.args.words.now (fields_of p) = d.ensures ∙ ap (Frame.digits_fit c.args.words.now) (c.requires.fact_3 ∙ in_order p c.requires.fact_2 c.if-payload-ne0.false) in
    rw (eq-eqb _ _ c.if-payload-ne0.false, ← digits, c.if-digits_fit.false)
