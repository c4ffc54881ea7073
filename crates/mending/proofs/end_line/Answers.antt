-- By what was found in the line.
use mathlib.Core.Path.{ap, ◌∙◌}
use lib.ListN.{length}
use Rattle.mending.specs.Looked.{text_found, entry_found, equals_found, ended_is}
use Rattle.mending.proofs.end_line.Goals as goal

pub returns : goal.returns
returns c =
    let a = c.args in
    let e = c.look-found.ensures in
    let g = c.passes-kept.ensures.kept in
    let x = c.put_line-repaired.ensures in
    let y = c.put_entry-listed.ensures in
    let t = text_found a.place a.line.now c.requires.fact_1 e g a.ended in
    let u = entry_found a.place a.line.now c.requires.fact_1 e g c.is_dash-dash.ensures in
    let v = equals_found a.place a.line.now c.requires.fact_1 e g in
    record {
      place = ended_is a.place a.line.now a.ended c.saturating_add.ensures (c.is_only-equals.ensures ∙ v) (x.length ∙ ap length t) (y.length ∙ ap length u);
      text = rw t at x.text;
      entry = rw u at y.text;
    }
