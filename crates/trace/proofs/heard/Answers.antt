-- A line that is held as a frame has digits alone.
use Rattle.std.proofs.Common.{length, sym, ◌∙◌}
use lib.Dec.{eqb}
use Rattle.sequence.specs.All.{all, and_right}
use Rattle.hex_lines.specs.Text.{is_digit, is_frame}
use Rattle.hex_lines.specs.Held.{held_line}
use Rattle.trace.proofs.heard.Goals as goal

pub payload-payload-requires : goal.payload-payload-requires
unfolding is_frame
payload-payload-requires c =
    let h = c.held_frame.ensures in
    let t = c.if-held_frame.true in
    let l = held_line c.args.line in
    rw (h.whole t).1 at (and_right (eqb (length l) 40) (all is_digit l) (sym h.frame ∙ t))
