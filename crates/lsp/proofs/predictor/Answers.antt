-- Each arm by the tests that led there.
use borrow.Author.Tests.{eq-eqb, ne_eqb, lt-ltb, le-ltb}
use mir.Syntax.{w16, w32}
use Rattle.fixed.specs.Machine.{back}
use Rattle.lsp.specs.Lsp as Lsp
use Rattle.lsp.proofs.predictor.Goals as goal

pub returns-then-n-eq0 : goal.returns-then-n-eq0
unfolding Lsp.predictor
returns-then-n-eq0 c = simp (eq-eqb _ _ c.if-n-eq0.true)

pub returns-then-n-lt6 : goal.returns-then-n-lt6
unfolding Lsp.predictor
returns-then-n-lt6 c =
    let m = c.before in
    let k = m.before.before in
    simp (ne_eqb _ _ k.before.if-n-eq0.false, lt-ltb _ _ k.if-n-lt6.true)
    (cc (back w32 m.before.plus.result m.before.plus.type_inv, back w32 m.minus.result m.minus.type_inv, back w16 c.front.result c.front.type_inv))

pub returns : goal.returns
unfolding Lsp.predictor
returns c =
    let m = c.before in
    let k = m.before.before in
    simp (ne_eqb _ _ k.before.if-n-eq0.false, le-ltb _ _ k.if-n-lt6.false)
    (cc (back w32 m.before.plus-2.result m.before.plus-2.type_inv, back w32 m.minus-2.result m.minus-2.type_inv, back w16 c.back.result c.back.type_inv))
