-- What is held tells which call it is.
use mathlib.Core.Path.{sym, ◌∙◌}
use lib.Dec.{eqb}
use lib.ListN.{length}
use Rattle.sequence.specs.All.{all, and_right}
use Rattle.hex_lines.specs.Text.{is_digit, is_frame}
use Rattle.heard.specs.Recording.{event}
use Rattle.hex_lines.specs.Held.{held_line}
use Rattle.term_steps.specs.Steps.{line_called}
use Rattle.term.proofs.Calls.{called_missed}
use Rattle.term.proofs.call.Goals as goal

pub payload-requires : goal.payload-requires
unfolding is_frame
payload-requires c =
    let l = held_line c.args.line in
    rw (c.held_frame.ensures.whole c.if-held_frame.true).1 at (and_right (eqb (length l) 40) (all is_digit l) (sym c.held_frame.ensures.frame ∙ c.if-held_frame.true))

pub returns-then-held_frame : goal.returns-then-held_frame
unfolding line_called event
returns-then-held_frame c = rw (sym c.held_frame.ensures.frame ∙ c.if-held_frame.true, (c.held_frame.ensures.whole c.if-held_frame.true).1, ← c.payload.ensures) c.hear.ensures

pub returns : goal.returns
unfolding line_called event
returns c =
    rw (← c.held_frame.ensures.frame, c.if-held_frame.false, c.numbered.ensures, c.missed_frame-missed.ensures) (called_missed c.args.words.now c.args.bytes.now c.args.state c.args.tally)
