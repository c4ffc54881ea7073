-- By turn k the text of the first k samples is stored.
use mathlib.Core.Path.{◌∙◌}
use Rattle.hex_lines.specs.Stores.{stored_none, stored_more, stored_end}
use Rattle.hex_lines.proofs.put_samples.Goals as goal

pub loop-k-init : goal.loop-k-init
loop-k-init c = stored_none c.args.samples.now c.args.out.now c.args.at

pub loop-k-preserved : goal.loop-k-preserved
loop-k-preserved c =
    stored_more _ _ _ _ _ c.loop-k.k c.loop-k.invariant c.loop-k-test.true
    (c.put_digits.ensures ∙ rw c.unsigned_word.ensures)

pub returns : goal.returns
returns c = stored_end _ _ _ _ c.loop-k.k c.loop-k.invariant c.loop-k-test.false
