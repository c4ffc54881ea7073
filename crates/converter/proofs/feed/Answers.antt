-- By each byte the text of those before it stands in the room.
use lib.ListN.{length-take, length-drop}
use native.Mathlib.Omega.{arith}
use Rattle.stream.specs.Machine.{streamed_none, streamed_more, streamed_quiet, streamed_end}
use Rattle.stream.specs.Room.{tail_back, counts}
use Rattle.converter.specs.Feed.{standing, credit, fed_chunk}
use Rattle.converter.proofs.Turns.{turn_fits, fed_newline, fed_other, newline_paid, other_paid}
use Rattle.converter.proofs.feed.Goals as goal
use Rattle.converter.proofs.feed.Goals.{then-b-eq10, else-b-eq10}

pub loop-b-init : goal.loop-b-init
loop-b-init c = streamed_none _ _ credit 11 _ _ _

pub slice_bounds-end_line-count : goal.slice_bounds-end_line-count
slice_bounds-end_line-count c =
    let f = turn_fits _ c.loop-b.invariant c.requires in
    omega arith

pub slice_bounds-end_line-start : goal.slice_bounds-end_line-start
slice_bounds-end_line-start c =
    let f = turn_fits _ c.loop-b.invariant c.requires in
    omega arith

pub end_line-n-requires : goal.end_line-n-requires
end_line-n-requires c =
    let f = turn_fits _ c.loop-b.invariant c.requires in
    simp (length-take, length-drop) (omega arith)

pub overflow_add-n : goal.overflow_add-n
overflow_add-n c =
    let f = turn_fits _ c.loop-b.invariant c.requires in
    let m = c.end_line-n.ensures.fits in
    omega arith

pub loop-b-preserved : goal.loop-b-preserved
loop-b-preserved c =
    let l = c.loop-b in
    let f = turn_fits _ l.invariant c.requires in
    elim c.if-b-eq10.branch [
      | then-b-eq10 w ↦
          let k = fed_newline c.args.way (standing l.first l.line) w.if-b-eq10.true in
          let h = w.end_line-n.ensures in
          rw (w.room-is, w.first-is, w.line-is, w.n-is)
          (streamed_more _ _ credit 11 l.invariant c.loop-b-test.true (rw (k.0, w.empty-line.ensures)) (rw (k.1, h.length)) (rw k.1 (tail_back l.room _ l.n _ (omega arith) (omega arith) h.text)) (rw w.empty-line.ensures (newline_paid l.line l.n w.end_line-n.result h.paid)))
      | else-b-eq10 w ↦
          let k = fed_other c.args.way (standing l.first l.line) w.if-b-eq10.false in
          rw (w.room-is, w.first-is, w.line-is, w.n-is)
          (streamed_quiet _ _ credit 11 l.invariant c.loop-b-test.true (rw (k.0, w.push-line.ensures)) k.1 (rw w.push-line.ensures (other_paid l.line _)))
    ]

pub shape_of-room : goal.shape_of-room
shape_of-room c =
    (turn_fits _ c.loop-b.invariant c.requires).1

pub returns : goal.returns
unfolding fed_chunk
returns c =
    let e = streamed_end _ _ credit 11 c.loop-b.invariant c.loop-b-test.false in
    let f = turn_fits _ c.loop-b.invariant c.requires in
    record {
      fed = rw (e.0, e.1);
      text = e.2;
      fits = counts _ _ (omega arith);
    }
