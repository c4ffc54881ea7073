-- Nothing is the end of the input.
use Rattle.stream.specs.Reads.{answer_end, answer_chunk}
use Rattle.heard.specs.Start.{part_bytes}
use Rattle.channel_lines.specs.Feed.{fed_by, written_by, ending_by, answered, fed_chunk}
use Rattle.channels.proofs.answer.Goals as goal

pub returns-then-chunk-eq0 : goal.returns-then-chunk-eq0
unfolding answered
returns-then-chunk-eq0 c =
    let file = c.args.file.now in
    let k = answer_end (fed_by file) (written_by file) (ending_by file) c.args.recorder c.args.chunk.now c.if-chunk-eq0.true in
    let h = rw (c.requires.fact_1.are, part_bytes file c.requires.fact_1.long) at c.end.ensures in
    rw (k.0, k.1) (record { fed = rw h.length; text = h.text; fits = h.fits })

pub returns : goal.returns
unfolding answered fed_chunk
returns c =
    let file = c.args.file.now in
    let k = answer_chunk (fed_by file) (written_by file) (ending_by file) c.args.recorder c.args.chunk.now c.if-chunk-eq0.false in
    let h = rw (c.requires.fact_1.are, part_bytes file c.requires.fact_1.long) at c.feed.ensures in
    rw k h
