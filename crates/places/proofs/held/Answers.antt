-- By each byte those before it are held.
use borrow.Author.Rules.{rules}
use Prim.Native.Nat.{ℕ}
use mathlib.Core.Path.{sym, ap, ◌∙◌}
use native.Mathlib.Numerals.{add-one}
use lib.ListN.{get_or, take}
use lib.Seq.{take-suc, take_all}
use Rattle.hex_lines.specs.declared.Line.{Line}
use Rattle.hex_lines.specs.Held.{kept, push}
use Rattle.places.specs.Places.{kept_more}
use Rattle.places.proofs.held.Goals as goal

pub loop-b-init : goal.loop-b-init
loop-b-init c = (search rules, c.empty-l.ensures)

pub loop-b-preserved : goal.loop-b-preserved
loop-b-preserved c =
    let l = c.args.line.now in
    (search rules, c.push-l.ensures ∙ ap (λ (k : Line). push k (get_or l c.loop-b.b-index 0)) c.loop-b.invariant.1 ∙ kept_more (take c.loop-b.b-index l) (get_or l c.loop-b.b-index 0) ∙ ap kept (sym (take-suc l c.loop-b.b-index 0 c.loop-b-test.true)) ∙ ap (λ (n : ℕ). kept (take n l)) (sym (add-one c.loop-b.b-index)))

pub returns : goal.returns
returns c =
    c.loop-b.invariant.1 ∙ ap kept (take_all c.loop-b.b-index c.args.line.now c.loop-b-test.false)
