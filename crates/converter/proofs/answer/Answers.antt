-- Nothing is the end of the input.
use Rattle.stream.specs.Reads.{answer_end, answer_chunk}
use Rattle.converter.specs.Feed.{fed, written, ending, answered, fed_chunk}
use Rattle.converter.proofs.answer.Goals as goal

pub returns-then-chunk-eq0 : goal.returns-then-chunk-eq0
unfolding answered
returns-then-chunk-eq0 c =
    let a = c.args in
    let k = answer_end fed (written a.way) (ending a.way) a.converter a.chunk.now c.if-chunk-eq0.true in
    let h = c.end.ensures in
    rw (k.0, k.1) (record { fed = rw h.length; text = h.text; fits = h.fits })

pub returns : goal.returns
unfolding answered fed_chunk
returns c =
    let a = c.args in
    let k = answer_chunk fed (written a.way) (ending a.way) a.converter a.chunk.now c.if-chunk-eq0.false in
    rw k c.feed.ensures
