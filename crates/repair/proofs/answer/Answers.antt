-- Nothing is the end of the input.
use native.Mathlib.Omega.{arith}
use mathlib.Core.Path.{refl, sym, ap}
use mathlib.Core.Bool.{false}
use lib.ListN.{take}
use lib.Seq.{length-take-le}
use Rattle.stream.specs.Reads.{answer_end, answer_chunk}
use Rattle.stream.specs.Room.{over_none, counts}
use Rattle.mending.specs.declared.Ended.{Ended}
use Rattle.mending.specs.Look.{ended}
use Rattle.repair.specs.Feed.{standing, fed, written, entered, ending, last_entered, answered, fed_chunk}
use Rattle.repair.proofs.Turns.{none_open, end_gives, text_long, entry_long}
use borrow.Author.Rules.{rules}
use Rattle.repair.proofs.answer.Goals as goal

pub returns-then-n-eq0 : goal.returns-then-n-eq0
unfolding answered
returns-then-n-eq0 c =
    let a = c.args in
    let r = standing a.mender a.held.now in
    let k = answer_end fed written ending r a.chunk.now c.if-chunk-eq0.true in
    let j = answer_end fed entered last_entered r a.chunk.now c.if-chunk-eq0.true in
    let z = none_open a.mender.place a.mender.n a.held.now c.if-n-eq0.true in
    rw (k.0, k.1, j.1, z.0, z.1) (record { fed = refl; held = refl; text = over_none _; entries = over_none _; fits = (search rules, refl); list = (search rules, refl) })

pub slice_bounds-end_line-end-then-chunk-eq0 : goal.slice_bounds-end_line-end-then-chunk-eq0
slice_bounds-end_line-end-then-chunk-eq0 c =
    let w = c.requires.fact_1 in
    sym (length-take-le _ _ (omega arith))

pub end_line-e-requires : goal.end_line-e-requires
end_line-e-requires c =
    let w = c.requires.fact_1 in
    let l = length-take-le c.told-k.result c.args.held.now (omega arith) in
    record {
      fact_1 = omega arith;
      fact_2 = search rules;
      fact_3 = search rules;
    }

pub returns-then-chunk-eq0 : goal.returns-then-chunk-eq0
unfolding answered ended
returns-then-chunk-eq0 c =
    let a = c.args in
    let r = standing a.mender a.held.now in
    let k = answer_end fed written ending r a.chunk.now c.if-chunk-eq0.true in
    let j = answer_end fed entered last_entered r a.chunk.now c.if-chunk-eq0.true in
    let t = c.told-k in
    let l = take t.result a.held.now in
    let g = end_gives a.mender.place a.mender.n a.held.now t.ensures.value c.if-n-eq0.false in
    let h = c.end_line-e.ensures in
    let x = ap (λ (e : Ended). e.repaired) h.place in
    let y = ap (λ (e : Ended). e.listed) h.place in
    let u = (text_long a.mender.place l false).1 in
    let v = entry_long a.mender.place l in
    rw (k.0, k.1, j.1, g.0, g.1) (record { fed = rw (x, y); held = refl; text = h.text; entries = h.entry; fits = counts _ _ (omega (arith, x, u)); list = counts _ _ (omega (arith, y, v)) })

pub returns : goal.returns
unfolding answered fed_chunk
returns c =
    let a = c.args in
    let r = standing a.mender a.held.now in
    let k = answer_chunk fed written ending r a.chunk.now c.if-chunk-eq0.false in
    let j = answer_chunk fed entered last_entered r a.chunk.now c.if-chunk-eq0.false in
    rw (k, j) c.feed.ensures
