-- A first `+`, or by the way.
use mathlib.Core.Path.{refl, sym, ◌∙◌}
use Rattle.convert.specs.Convert.{text}
use Rattle.convert.proofs.put_text.Goals as goal

pub returns-then-is_start : goal.returns-then-is_start
unfolding text
returns-then-is_start c =
    rw (sym c.is_start.ensures ∙ c.if-is_start.true) (record { length = refl; text = c.put.ensures })

pub returns-in-ToReceiver : goal.returns-in-ToReceiver
unfolding text
returns-in-ToReceiver c =
    rw (sym c.is_start.ensures ∙ c.if-is_start.false, c.in-ToReceiver.is) c.to_receiver.ensures

pub returns-in-FromReceiver : goal.returns-in-FromReceiver
unfolding text
returns-in-FromReceiver c =
    rw (sym c.is_start.ensures ∙ c.if-is_start.false, c.in-FromReceiver.is) c.from_receiver.ensures
