-- The length decides first; the answer is that of the call on the state.
use mathlib.Core.Path.{ap, ◌∙◌}
use Rattle.state.specs.State.{missed_frame}
use Rattle.desk.proofs.Outcomes.{missed_eleven, missed_told}
use Rattle.desk.proofs.drolkhise_missed_frame.Goals as goal

pub returns-then-image-ne-SIZE : goal.returns-then-image-ne-SIZE
returns-then-image-ne-SIZE c =
    let t = missed_eleven c.args.image.now c.if-image-ne-SIZE.true in
    record { number = t.0; image = t.1 }

pub returns : goal.returns
returns c =
    let t = missed_told c.args.image.now c.missed_frame-r.result _ c.if-image-ne-SIZE.false (c.missed_frame-r.ensures ∙ ap missed_frame c.read-state.ensures) c.lower.ensures in
    record { number = t.0; image = t.1 }
