-- The call on states was given what the definitions give it; its answer decides.
use Rattle.std.proofs.Common.{refl, arith, length}
use Rattle.desk_calls.specs.FramesSame.{samples_in_most}
use Rattle.desk.proofs.Outcomes.{words_are, standing_are, lowered_all, frames_declined, frames_accepted}
use Rattle.desk.proofs.frames.Goals as goal

pub read_words-requires-2 : goal.read_words-requires-2
read_words-requires-2 c =
    let m = samples_in_most (length c.args.samples.now) in
    let e = c.requires.fact_3 in
    omega arith

pub returns-then-r-ne0 : goal.returns-then-r-ne0
returns-then-r-ne0 c =
    let a = c.args in
    let t = lowered_all a.tables.now a.image.now a.payloads.now a.samples.now a.numbers.now _ _ _ _ c.lower.ensures
    (frames_declined a.tables.now a.image.now a.payloads.now a.samples.now a.numbers.now c.requires.fact_1 c.requires.fact_2 _ _ _ _ (words_are a.tables.now _ _ refl c.read_words.ensures) refl c.read-state.ensures (standing_are a.samples.now _ _ c.requires.fact_3 c.read_words-2.ensures) c.decode_frames-r.result c.decode_frames-r.ensures.returned c.decode_frames-r.new.numbers c.decode_frames-r.ensures.numbers c.if-r-ne0.true) in
    record { number = t.0; image = t.1.0; samples = t.1.1.0; numbers = t.1.1.1 }

pub put_words-requires : goal.put_words-requires
put_words-requires c =
    let m = samples_in_most (length c.args.samples.now) in
    let e = c.requires.fact_3 in
    let k = c.decode_frames-r.auto.samples in
    let l = c.read_words-2.auto.out in
    omega arith

pub returns : goal.returns
returns c =
    let a = c.args in
    let t = frames_accepted a.tables.now a.image.now a.payloads.now a.samples.now a.numbers.now c.requires.fact_1 c.requires.fact_2 _ _ _ _ (words_are a.tables.now _ _ refl c.read_words.ensures) refl c.read-state.ensures (standing_are a.samples.now _ _ c.requires.fact_3 c.read_words-2.ensures) c.decode_frames-r.result c.decode_frames-r.ensures.returned c.decode_frames-r.new.numbers c.decode_frames-r.ensures.numbers c.if-r-ne0.false _ _ c.decode_frames-r.new.samples c.write.ensures c.decode_frames-r.auto.samples c.decode_frames-r.ensures.samples c.put_words.ensures in
    record { number = t.0; image = t.1.0; samples = t.1.1.0; numbers = t.1.1.1 }
