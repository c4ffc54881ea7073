-- By the length, and by what hex tells of a line of 40 bytes.
use mathlib.Core.Path.{sym, ◌∙◌}
use lib.Dec.{eqb}
use lib.ListN.{length}
use borrow.Author.Tests.{ne_eqb}
use Rattle.sequence.specs.All.{all, and_right}
use Rattle.hex_lines.specs.Text.{is_digit, is_frame}
use Rattle.convert.specs.Convert.{line_or, to_number, to_receiver}
use Rattle.convert.proofs.Lines.{frame_told}
use Rattle.convert.proofs.to_receiver.Goals as goal

pub returns-then-line-ne40 : goal.returns-then-line-ne40
unfolding to_receiver to_number is_frame line_or
returns-then-line-ne40 c = rw (ne_eqb _ 40 c.if-line-ne40.true) c.put_refused.ensures

pub payload-requires : goal.payload-requires
unfolding is_frame
payload-requires c =
    let l = c.args.line.now in
    let k = frame_told l _ c.if-line-ne40.false c.put.ensures c.held_frame.ensures.frame in
    rw k.1 (and_right (eqb (length l) 40) (all is_digit l) (sym k.0 ∙ c.if-held_frame.true))

pub returns-then-held_frame : goal.returns-then-held_frame
unfolding to_receiver to_number
returns-then-held_frame c =
    let l = c.args.line.now in
    let k = frame_told l _ c.if-line-ne40.false c.put.ensures c.held_frame.ensures.frame in
    rw (sym k.0 ∙ c.if-held_frame.true) (rw (c.payload.ensures, k.1) at c.put_digits.ensures)

pub returns : goal.returns
unfolding to_receiver to_number line_or
returns c =
    let l = c.args.line.now in
    let k = frame_told l _ c.if-line-ne40.false c.put.ensures c.held_frame.ensures.frame in
    rw (sym k.0 ∙ c.if-held_frame.false) c.put_refused-2.ensures
