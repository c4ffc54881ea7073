-- Each arm by the tests that led there.
use borrow.Author.Rules.{rules}
use mathlib.Core.Path.{◌≡◌, ◌∙◌, ap}
use borrow.Author.Tests.{eq-eqb, ne_eqb, lt-ltb, le-ltb}
use lib.IntN.{ℤ, pos}
use lib.ListN.{get_or}
use mir.Syntax.{w16, w32}
use mir.ValLaws.{to_z-of_z}
use Prim.Native.Nat.{◌-◌}
use Rattle.fixed.specs.Machine.{back}
use Rattle.lsp.specs.Lsp as Lsp
use Rattle.lsp.proofs.coefficient.Goals as goal

pub returns-then-j-eq0 : goal.returns-then-j-eq0
unfolding Lsp.coefficient
returns-then-j-eq0 c = simp (eq-eqb _ _ c.before.if-j-eq0.true) (back w32 _ (search rules))

pub returns-then-j-eq1 : goal.returns-then-j-eq1
unfolding Lsp.coefficient
returns-then-j-eq1 c =
    let k = c.before in
    let s = k.before.before.before in
    simp (ne_eqb _ _ k.before.before.if-j-eq0.false, eq-eqb _ _ k.before.if-j-eq1.true)
    (cc (to_z-of_z w16 _ s.ranges.l, back w32 (get_or s.args.f 1 (pos 0)) (search rules), back w32 c.linear.result c.linear.type_inv))

pub returns-then-i-j : goal.returns-then-i-j
unfolding Lsp.coefficient
returns-then-i-j c =
    let k = c.before in
    simp (ne_eqb _ _ k.before.before.if-j-eq0.false, ne_eqb _ _ k.before.if-j-eq1.false, lt-ltb _ _ k.if-i-j.true) (back w32 _ (search rules))

pub returns : goal.returns
unfolding Lsp.coefficient
returns c =
    let b = c.before in
    let o = b.before.before in
    let k = o.before in
    let s = k.before.before.before in
    let f = s.args.f in
    let j = s.args.j in
    let p : c.product.result ≡ Lsp.product o.own.result (get_or f (j - 1) (pos 0)) (get_or f (j - 2) (pos 0)) s.args.l = simp (to_z-of_z w16 _ s.ranges.l, back w32 o.own.result o.own.type_inv, back w32 (get_or f (j - 1) (pos 0)) (search rules), back w32 (get_or f (j - 2) (pos 0)) (search rules)) at c.product.ensures in
    simp (ne_eqb _ _ k.before.before.if-j-eq0.false, ne_eqb _ _ k.before.if-j-eq1.false, le-ltb _ _ k.if-i-j.false)
    (back w32 c.product.result c.product.type_inv ∙ p ∙ ap (λ (z : ℤ). Lsp.product z (get_or f (j - 1) (pos 0)) (get_or f (j - 2) (pos 0)) s.args.l) o.own.ensures)
