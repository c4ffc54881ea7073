-- The tests are the definition's.
use mathlib.Core.Path.{sym, ◌∙◌}
use Rattle.term_steps.specs.Term.{is_end}
use Rattle.term_steps.specs.Steps.{line_ended}
use Rattle.term.proofs.end_line.Goals as goal

pub returns-then-full : goal.returns-then-full
unfolding line_ended
returns-then-full c = rw (sym c.before.full.ensures ∙ c.if-full.true)

pub returns-then-is_only : goal.returns-then-is_only
unfolding line_ended is_end
returns-then-is_only c =
    let e = c.before.before in
    rw (sym e.before.before.full.ensures ∙ e.before.if-full.false, sym e.is_only.ensures ∙ c.before.if-is_only.true) c.ended.ensures

pub returns-then-is_opening : goal.returns-then-is_opening
unfolding line_ended is_end
returns-then-is_opening c =
    let o = c.before.before in
    let e = o.before.before in
    rw (sym e.before.before.full.ensures ∙ e.before.if-full.false, sym e.is_only.ensures ∙ o.before.if-is_only.false, sym o.is_opening.ensures ∙ c.before.if-is_opening.true) c.opened.ensures

pub returns : goal.returns
unfolding line_ended is_end
returns c =
    let o = c.before.before in
    let e = o.before.before in
    rw (sym e.before.before.full.ensures ∙ e.before.if-full.false, sym e.is_only.ensures ∙ o.before.if-is_only.false, sym o.is_opening.ensures ∙ c.before.if-is_opening.false) c.call.ensures
