-- By byte i the first i bytes are taken in.
use Rattle.std.proofs.Common.{refl, ◌∙◌, take_all}
use Rattle.stream.specs.Machine.{fed_all, fed_more}
use Rattle.term_steps.specs.Steps.{place}
use Rattle.term_steps.specs.Feed.{standing, fed, fed_newline, fed_other}
use Rattle.term.proofs.take_in.Goals as goal

pub loop-b-init : goal.loop-b-init
unfolding fed_all
loop-b-init c = refl

pub loop-b-preserved-then-b-ne10 : goal.loop-b-preserved-then-b-ne10
loop-b-preserved-then-b-ne10 c =
    let s = c.args in
    let l = c.loop-b in
    let f = fed s.words.now s.bytes.now in
    let k = fed_other s.words.now s.bytes.now (standing (place l.first l.state l.tally) l.line) c.if-b-ne10.true in
    rw (fed_more f _ s.chunk.now l.b-index c.loop-b-test.true, ← l.invariant, k, c.push-line.ensures)

pub loop-b-preserved : goal.loop-b-preserved
loop-b-preserved c =
    let s = c.args in
    let l = c.loop-b in
    let f = fed s.words.now s.bytes.now in
    let k = fed_newline s.words.now s.bytes.now (standing (place l.first l.state l.tally) l.line) c.if-b-ne10.false in
    rw (fed_more f _ s.chunk.now l.b-index c.loop-b-test.true, ← l.invariant, k, c.end_line-place.ensures, c.empty-line.ensures)

pub returns : goal.returns
returns c = c.loop-b.invariant ∙ rw (take_all c.loop-b.b-index c.args.chunk.now c.loop-b-test.false)
