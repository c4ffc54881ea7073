-- The text is copied over the beginning.
use mathlib.Core.Path.{refl, ◌∙◌}
use Rattle.hex_lines.proofs.put_refused.Goals as goal

pub returns : goal.returns
returns c = record {
  length = refl;
  text = c.put.ensures ∙ rw c.refused_text-text.ensures;
}
