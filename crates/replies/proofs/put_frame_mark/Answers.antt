-- Three parts, one behind the other.
use Rattle.replies.proofs.Steps.{put_mark}
use Rattle.stream.specs.Decimal.{decimal_long}
use native.Mathlib.Omega.{arith}
use Rattle.replies.proofs.put_frame_mark.Goals as goal

pub put_figure-requires : goal.put_figure-requires
put_figure-requires c =
    let l = decimal_long c.from.result in
    omega arith

pub returns : goal.returns
returns c =
    let e = c.from.ensures in
    let f = c.from-2.ensures in
    put_mark c.args.k c.args.mark c.args.room.now _ _ _ _ _ c.requires c.put_at-a.ensures.next c.put_at-a.ensures.text (rw e at c.put_decimal-b.ensures.next) (rw e at c.put_decimal-b.ensures.text) (rw f at c.put_figure.ensures.next) (rw f at c.put_figure.ensures.text)
