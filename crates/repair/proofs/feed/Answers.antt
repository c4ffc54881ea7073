-- By each byte the texts of those before it stand in their rooms.
use native.Mathlib.Omega.{arith}
use mathlib.Core.Path.{sym, ap, ◌∙◌}
use mathlib.Core.Bool.{true}
use lib.ListN.{take, length-take, length-drop}
use lib.Seq.{length-take-le}
use Rattle.stream.specs.Machine.{streamed_none, streamed_more, streamed_quiet, streamed_end}
use Rattle.stream.specs.Room.{tail_back, counts}
use Rattle.mending.specs.declared.Ended.{Ended}
use Rattle.mending.specs.Look.{ended}
use Rattle.repair.specs.Feed.{Standing, fed, written, entered, fed_chunk}
use Rattle.repair.proofs.Turns.{credit, free, fits, newline_gives, other_gives, told_most, text_long, entry_long, push_long, push_paid}
use Rattle.repair.proofs.feed.Goals as goal

pub loop-b-init : goal.loop-b-init
loop-b-init c =
    record { text = streamed_none fed written credit 2 _ _ _; entries = streamed_none fed entered free 41 _ _ _; whole = c.requires.fact_1 }

pub slice_bounds-end_line-end : goal.slice_bounds-end_line-end
slice_bounds-end_line-end c =
    let w = c.loop-b.invariant.whole in
    omega arith

pub slice_bounds-end_line-end-in-loop-b : goal.slice_bounds-end_line-end-in-loop-b
slice_bounds-end_line-end-in-loop-b c =
    let w = c.loop-b.invariant.whole in
    sym (length-take-le _ _ (omega arith))

pub slice_bounds-end_line-count : goal.slice_bounds-end_line-count
slice_bounds-end_line-count c =
    let f = fits c.loop-b.invariant c.requires.fact_2 c.requires.fact_3 in
    omega arith

pub slice_bounds-end_line-start : goal.slice_bounds-end_line-start
slice_bounds-end_line-start c =
    let f = fits c.loop-b.invariant c.requires.fact_2 c.requires.fact_3 in
    omega arith

pub slice_bounds-end_line-count-in-loop-b : goal.slice_bounds-end_line-count-in-loop-b
slice_bounds-end_line-count-in-loop-b c =
    let f = fits c.loop-b.invariant c.requires.fact_2 c.requires.fact_3 in
    omega arith

pub slice_bounds-end_line-start-in-loop-b : goal.slice_bounds-end_line-start-in-loop-b
slice_bounds-end_line-start-in-loop-b c =
    let f = fits c.loop-b.invariant c.requires.fact_2 c.requires.fact_3 in
    omega arith

pub end_line-e-requires : goal.end_line-e-requires
end_line-e-requires c =
    let f = fits c.loop-b.invariant c.requires.fact_2 c.requires.fact_3 in
    let w = c.loop-b.invariant.whole in
    record {
      fact_1 = simp length-take (omega arith);
      fact_2 = simp (length-take, length-drop) (omega arith);
      fact_3 = simp (length-take, length-drop) (omega arith);
    }

pub overflow_add-repaired : goal.overflow_add-repaired
unfolding ended
overflow_add-repaired c =
    let f = fits c.loop-b.invariant c.requires.fact_2 c.requires.fact_3 in
    let e = ap (λ (x : Ended). x.repaired) c.end_line-e.ensures.place in
    let l = (text_long c.loop-b.place (take c.told-k.result c.loop-b.held) true).1 in
    omega (arith, e, l, f.0)

pub overflow_add-listed : goal.overflow_add-listed
unfolding ended
overflow_add-listed c =
    let f = fits c.loop-b.invariant c.requires.fact_2 c.requires.fact_3 in
    let l = entry_long c.loop-b.place (take c.told-k.result c.loop-b.held) in
    let e = ap (λ (x : Ended). x.listed) c.end_line-e.ensures.place in
    omega (arith, e, l, f.2)

pub loop-b-preserved : goal.loop-b-preserved
unfolding ended
loop-b-preserved c =
    let f = fits c.loop-b.invariant c.requires.fact_2 c.requires.fact_3 in
    let p = c.end_line-e in
    let k = c.told-k in
    let l = take k.result c.loop-b.held in
    let g = newline_gives c.loop-b.place c.loop-b.n c.loop-b.held k.ensures.value c.if-b-ne10.false in
    let h = c.end_line-e.ensures in
    let a = ap (λ (x : Ended). x.repaired) h.place in
    let b = ap (λ (x : Ended). x.listed) h.place in
    let q = ap (λ (x : Ended). x.place) h.place in
    let i = c.loop-b-test.true in
    let m = told_most c.loop-b.held c.loop-b.n k.ensures.value in
    let u = text_long c.loop-b.place l true in
    let v = entry_long c.loop-b.place l in
    record {
      text = streamed_more fed written credit 2 c.loop-b.invariant.text i (rw (g.0, q)) (rw (g.1, a)) (rw g.1 (tail_back c.loop-b.out _ c.loop-b.repaired _ (omega arith) (omega (arith, f.0)) h.text)) (omega (arith, a, u.0, m));
      entries = streamed_more fed entered free 41 c.loop-b.invariant.entries i (rw (g.0, q)) (rw (g.2, b)) (rw g.2 (tail_back c.loop-b.list _ c.loop-b.listed _ (omega arith) (omega (arith, f.2)) h.entry)) (omega (arith, b, v));
      whole = c.loop-b.invariant.whole;
    }

pub push-n-requires : goal.push-n-requires
push-n-requires c = c.loop-b.invariant.whole

pub loop-b-preserved-then-b-ne10 : goal.loop-b-preserved-then-b-ne10
loop-b-preserved-then-b-ne10 c =
    let g = other_gives c.loop-b.place c.loop-b.n c.loop-b.held c.if-b-ne10.true in
    let p = c.push-n.ensures in
    let i = c.loop-b-test.true in
    record {
      text = streamed_quiet fed written credit 2 c.loop-b.invariant.text i (rw (g.0, p.count, p.text)) g.1 (rw p.count (push_paid c.loop-b.n));
      entries = streamed_quiet fed entered free 41 c.loop-b.invariant.entries i (rw (g.0, p.count, p.text)) g.2 (omega arith);
      whole = rw p.text (push_long c.loop-b.held c.loop-b.n _ ∙ c.loop-b.invariant.whole);
    }

pub shape_of-held : goal.shape_of-held
shape_of-held c =
    c.loop-b.invariant.whole ∙ sym c.requires.fact_1

pub shape_of-out : goal.shape_of-out
shape_of-out c =
    let f = fits c.loop-b.invariant c.requires.fact_2 c.requires.fact_3 in
    f.1

pub shape_of-list : goal.shape_of-list
shape_of-list c =
    let f = fits c.loop-b.invariant c.requires.fact_2 c.requires.fact_3 in
    f.3

pub returns : goal.returns
unfolding fed_chunk
returns c =
    let f = fits c.loop-b.invariant c.requires.fact_2 c.requires.fact_3 in
    let e = streamed_end fed written credit 2 c.loop-b.invariant.text c.loop-b-test.false in
    let g = streamed_end fed entered free 41 c.loop-b.invariant.entries c.loop-b-test.false in
    let m = ap (λ (r : Standing). r.mender) e.0 in
    record {
      fed = rw (m, e.1, g.1);
      held = ap (λ (r : Standing). r.held) e.0;
      text = e.2;
      entries = g.2;
      fits = counts _ _ (omega (arith, f.0));
      list = counts _ _ (omega (arith, f.2));
    }
