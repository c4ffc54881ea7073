-- Each turn is the definition's step, by what its callees ensure.
use borrow.Author.Rules.{rules}
use native.Mathlib.Omega.{arith}
use mathlib.Core.Path.{◌≡◌, refl, ◌∙◌, ap}
use Prim.Native.Nat.{◌+◌, ◌*◌}
use lib.IntN.{ℤ, pos}
use lib.ListN.{get_or}
use mir.Syntax.{w16}
use Rattle.sequence.specs.Repeated.{repeated, repeated_again, repeated_end}
use Rattle.fixed.specs.Machine.{back}
use Rattle.lsp.specs.Lsp as Lsp
use Rattle.lsp.proofs.lsp_polynomial.Invariants.{turn}
use Rattle.lsp.proofs.lsp_polynomial.Goals as goal

pub loop-n-init : goal.loop-n-init
unfolding repeated
loop-n-init c = (omega arith, refl)

pub loop-n-preserved : goal.loop-n-preserved
loop-n-preserved c =
    let m = c.before in
    let l = m.before.before.before in
    let s = l.before.before.before in
    let x = get_or s.args.lsp (s.args.first + 2 * (l.loop-n.n + 1)) (pos 0) in
    let g : m.negated.result ≡ Lsp.negated x = simp (back w16 x (search rules)) at m.negated.ensures in
    let e : c.next_polynomial-next.result ≡ turn s.args.lsp s.args.first l.loop-n.n l.loop-n.f = simp (back w16 m.negated.result m.negated.type_inv) at c.next_polynomial-next.ensures ∙ ap (λ (z : ℤ). Lsp.next_polynomial z (l.loop-n.n + 2) l.loop-n.f) g in
    (omega arith, repeated_again (turn s.args.lsp s.args.first) l.loop-n.n _ l.loop-n.invariant.1 e)

pub returns : goal.returns
unfolding Lsp.lsp_polynomial
returns c =
    let l = c.before in
    let a = l.before in
    let s = a.before.before in
    let x = get_or s.args.lsp s.args.first (pos 0) in
    let e : a.first_polynomial-f.result ≡ Lsp.first_polynomial x = simp (back w16 x (search rules)) at a.first_polynomial-f.ensures in
    repeated_end (turn s.args.lsp s.args.first) _ l.loop-n.invariant.0 (omega arith) l.loop-n.invariant.1 ∙ ap (repeated (turn s.args.lsp s.args.first) 4) e
