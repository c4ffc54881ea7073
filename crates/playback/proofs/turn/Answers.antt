-- A frame where one is left to play, and the input where none is.
use Rattle.playback.proofs.Steps.{ahead_some, took_frame, took_input}
use Rattle.table_file.specs.File as File
use mathlib.Core.Path.{sym, ◌∙◌}
use native.Mathlib.Omega.{arith}
use Rattle.stream.specs.Room.{over_counts}
use Rattle.heard.specs.Start.{part_bytes}
use borrow.Author.Rules.{rules}
use Rattle.playback.proofs.turn.Goals as goal

pub frame-f-requires : goal.frame-f-requires
frame-f-requires c =
    let e = ahead_some _ _ (sym c.playing.ensures ∙ c.if-playing.true) in
    record {
      fact_1 = e.0;
      fact_2 = e.1;
      fact_3 = search rules;
    }

pub returns-then-playing : goal.returns-then-playing
returns-then-playing c =
    let f = rw (c.requires.fact_1.are, part_bytes c.args.file.now c.requires.fact_1.long) at c.frame-f.ensures in
    let t = took_frame _ _ _ c.args.p _ c.args.chunk.now _ _ _ f in
    let l = t.long in
    let g = t.fits in
    record {
      took = t;
      fits = over_counts _ _ _ t.put l (omega arith);
      used = omega arith;
    }

pub returns : goal.returns
returns c =
    let f = rw (c.requires.fact_1.are, part_bytes c.args.file.now c.requires.fact_1.long) at c.take.ensures.took in
    let t = took_input (File.words c.args.file.now) (File.bytes c.args.file.now) c.args.recording.now c.args.p c.args.images.now c.args.chunk.now c.args.room.now (sym c.playing.ensures ∙ c.if-playing.false) f in
    let l = t.long in
    let g = t.fits in
    record {
      took = t;
      fits = over_counts _ _ _ t.put l (omega arith);
      used = c.take.ensures.used;
    }
