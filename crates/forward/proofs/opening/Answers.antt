-- The start tells which it is.
use mathlib.Core.Path.{sym, ap, ◌∙◌}
use borrow.Author.Tests.{eq-eqb, ne_eqb}
use Rattle.state.specs.declared.Returned.{Returned}
use Rattle.forward.specs.Gone.{opens}
use Rattle.forward.proofs.opening.Goals as goal

pub returns-then-start_of-eq0 : goal.returns-then-start_of-eq0
returns-then-start_of-eq0 c =
    let a = c.args in
    ap (λ (r : Returned). r.state) c.cold_start-cold.ensures ∙ sym (opens a.words.now a.bytes.now a.recording.now ∙ rw (← c.start_of.ensures, eq-eqb _ 0 c.if-start_of-eq0.true))

pub returns : goal.returns
returns c =
    let a = c.args in
    ap (λ (r : Returned). r.state) c.reset-reset.ensures ∙ sym (opens a.words.now a.bytes.now a.recording.now ∙ rw (← c.start_of.ensures, ne_eqb _ 0 c.if-start_of-eq0.false))
