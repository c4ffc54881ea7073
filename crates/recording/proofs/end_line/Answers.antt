-- A first `+`, or a call.
use mathlib.Core.Path.{refl, sym, ◌∙◌}
use native.Mathlib.Omega.{arith}
use Rattle.stream.specs.Room.{over_none}
use Rattle.heard.specs.Recording.{line_step, line_text}
use Rattle.heard.specs.Start.{called}
use Rattle.recording.specs.Feed.{said, end_step, end_text}
use Rattle.recording.proofs.end_line.Goals as goal

pub returns-then-is_opening : goal.returns-then-is_opening
unfolding said end_step end_text
returns-then-is_opening c =
    let o = c.is_opening.ensures in
    let s = c.args in
    rw (sym o ∙ c.if-is_opening.true, c.reset.ensures) (record { said = refl; text = over_none s.out.now; fits = omega arith; paid = omega arith })

pub returns : goal.returns
unfolding said called end_step end_text line_step line_text
returns c =
    let o = c.is_opening.ensures in
    rw (sym o ∙ c.if-is_opening.false) c.call.ensures
