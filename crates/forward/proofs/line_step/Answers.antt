-- What is held tells which call it is.
use mathlib.Core.Path.{sym, ◌∙◌}
use lib.Dec.{eqb}
use lib.ListN.{length}
use Rattle.calls.specs.Run.{step}
use Rattle.hex_lines.specs.Text.{is_digit, is_frame}
use Rattle.hex_lines.specs.Held.{held_line}
use Rattle.heard.specs.Recording.{event, line_step}
use Rattle.sequence.specs.All.{all, and_right}
use Rattle.forward.proofs.line_step.Goals as goal

pub payload-requires : goal.payload-requires
unfolding is_frame
payload-requires c =
    let h = c.held_frame.ensures in
    let t = c.if-held_frame.true in
    let l = held_line c.args.line in
    rw (h.whole t).1 at (and_right (eqb (length l) 40) (all is_digit l) (sym h.frame ∙ t))

pub returns-then-held_frame : goal.returns-then-held_frame
unfolding line_step event
returns-then-held_frame c =
    let h = c.held_frame.ensures in
    let t = c.if-held_frame.true in
    rw (sym h.frame ∙ t, (h.whole t).1, ← c.payload.ensures) c.hear.ensures

pub returns : goal.returns
unfolding line_step event step
returns c = rw (← c.held_frame.ensures.frame, c.if-held_frame.false) c.missed.ensures
