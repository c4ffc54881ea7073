-- By each byte the line has those before it.
use mathlib.Core.Path.{refl, sym, ap, ◌∙◌}
use lib.ListN.{get_or}
use lib.Seq.{take_all}
use Rattle.stream.specs.Machine.{fed_all, fed_more}
use Rattle.hex_lines.specs.declared.Line.{Line}
use Rattle.hex_lines.specs.Held.{push}
use Rattle.playback.proofs.push_all.Goals as goal

pub loop-b-init : goal.loop-b-init
unfolding fed_all
loop-b-init c = refl

pub loop-b-preserved : goal.loop-b-preserved
loop-b-preserved c =
    let l = c.loop-b in
    c.push-l.ensures ∙ ap (λ (k : Line). push k (get_or c.args.part.now l.b-index 0)) l.invariant ∙ sym (fed_more push c.args.line c.args.part.now l.b-index c.loop-b-test.true)

pub returns : goal.returns
returns c =
    c.loop-b.invariant ∙ ap (fed_all push c.args.line) (take_all c.loop-b.b-index c.args.part.now c.loop-b-test.false)
