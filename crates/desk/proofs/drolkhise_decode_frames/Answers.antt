-- The lengths decide first; then it is the call on states.
use Rattle.std.proofs.Common.{ℕ, ◌≡◌, ◌≤◌, sym, ◌∙◌, arith, length}
use Rattle.desk_calls.specs.Desk.{samples_in}
use Rattle.desk_calls.specs.FramesSame.{samples_in_top}
use Rattle.desk.proofs.Outcomes.{front_long, lowered_all, frames_eleven, frames_one}
use Rattle.desk.proofs.drolkhise_decode_frames.Goals as goal

pub returns-then-image-ne-SIZE : goal.returns-then-image-ne-SIZE
returns-then-image-ne-SIZE c =
    let a = c.args in
    let t = frames_eleven a.tables.now a.image.now a.payloads.now a.samples.now a.numbers.now c.if-image-ne-SIZE.true in
    record { number = t.0; image = t.1.0; samples = t.1.1.0; numbers = t.1.1.1 }

pub returns-then-tables-ne-TABLES : goal.returns-then-tables-ne-TABLES
returns-then-tables-ne-TABLES c =
    let a = c.args in
    let t = lowered_all a.tables.now a.image.now a.payloads.now a.samples.now a.numbers.now _ _ _ _ c.lower.ensures (frames_one a.tables.now a.image.now a.payloads.now a.samples.now a.numbers.now c.if-image-ne-SIZE.false c.if-tables-ne-TABLES.true) in
    record { number = t.0; image = t.1.0; samples = t.1.1.0; numbers = t.1.1.1 }

-- a room has so many samples at most
fits : (n room : ℕ) → n ≡ samples_in room → n ≤ 20480
fits n room e = let m = samples_in_top room in omega arith

pub slice_bounds-pcm-end : goal.slice_bounds-pcm-end
slice_bounds-pcm-end c = fits c.samples_in-n.result (length c.args.samples.now) c.samples_in-n.ensures

pub slice_bounds-frames-end : goal.slice_bounds-frames-end
slice_bounds-frames-end c = sym (front_long c.samples_in-n.result 20480 (fits c.samples_in-n.result (length c.args.samples.now) c.samples_in-n.ensures))

pub frames-requires-clause-fact_3 : goal.frames-requires-clause-fact_3
frames-requires-clause-fact_3 c = front_long c.samples_in-n.result 20480 (fits c.samples_in-n.result (length c.args.samples.now) c.samples_in-n.ensures) ∙ c.samples_in-n.ensures
