-- What is held tells which call it is.
use mathlib.Core.Path.{refl, sym, ◌∙◌}
use lib.Dec.{eqb}
use lib.ListN.{length}
use Rattle.calls.specs.Run.{step}
use Rattle.hex_lines.specs.Text.{is_digit, is_frame, refused_text}
use Rattle.heard.specs.Recording.{event, text, line_text}
use Rattle.hex_lines.specs.Held.{held_line}
use Rattle.heard.specs.Start.{called}
use Rattle.sequence.specs.All.{all, and_right}
use native.Mathlib.Omega.{arith}
use Rattle.hearing.proofs.call.Goals as goal

pub payload-requires : goal.payload-requires
unfolding is_frame
payload-requires c =
    let h = c.held_frame.ensures in
    let t = c.if-held_frame.true in
    let l = held_line c.args.line in
    rw (h.whole t).1 at (and_right (eqb (length l) 40) (all is_digit l) (sym h.frame ∙ t))

pub returns-then-held_frame : goal.returns-then-held_frame
unfolding event line_text
returns-then-held_frame c =
    let h = c.held_frame.ensures in
    let t = c.if-held_frame.true in
    let w = c.hear.ensures in
    let n = (h.whole t).0 in
    rw (sym h.frame ∙ t, (h.whole t).1, ← c.payload.ensures) (record { said = w.said; text = w.text; fits = w.fits; paid = omega arith })

pub returns : goal.returns
unfolding called text step event line_text refused_text
returns c =
    let h = c.held_frame in
    let p = c.put_refused.ensures in
    rw (← h.ensures.frame, c.if-held_frame.false, c.missed-next.ensures, p.length) (record { said = refl; text = p.text; fits = omega arith; paid = omega arith })
