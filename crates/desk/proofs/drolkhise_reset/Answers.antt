-- The lengths decide first; then the answer and the image are those of the call on states.
use mathlib.Core.Path.{refl, ap, ◌∙◌}
use Rattle.state.specs.State.{reset}
use Rattle.desk_calls.specs.Desk.{zeros}
use Rattle.desk.proofs.Outcomes.{words_are, started_is, reset_eleven, reset_one, reset_told}
use Rattle.desk.proofs.drolkhise_reset.Goals as goal

pub returns-then-image-ne-SIZE : goal.returns-then-image-ne-SIZE
returns-then-image-ne-SIZE c =
    let a = c.args in
    let t = reset_eleven a.tables.now a.image.now c.if-image-ne-SIZE.true in
    record { number = t.0; image = t.1 }

pub returns-then-tables-ne-TABLES : goal.returns-then-tables-ne-TABLES
returns-then-tables-ne-TABLES c =
    let a = c.args in
    let o = reset_one a.tables.now a.image.now c.if-image-ne-SIZE.false c.if-tables-ne-TABLES.true in
    record {
      number = o.0;
      image = c.clear.ensures ∙ ap zeros c.if-image-ne-SIZE.false ∙ o.1;
    }

pub returns : goal.returns
returns c =
    let a = c.args in
    let t = reset_told a.tables.now a.image.now c.if-image-ne-SIZE.false c.if-tables-ne-TABLES.false c.reset-r.result _ (started_is a.tables.now _ _ (words_are a.tables.now _ _ refl c.read_words.ensures) refl reset _ c.reset-r.ensures) c.write.ensures in
    record { number = t.0; image = t.1 }
