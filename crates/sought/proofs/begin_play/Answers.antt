-- What was found is left to play, and what was not is told; 0 refuses nothing, and gives the all-zero state.
use Rattle.std.proofs.Common.{◌≡◌, ◌∙◌, refl, sym, ap, arith, Ok}
use Rattle.stream.specs.Room.{over_none}
use Rattle.state.specs.declared.State.{State}
use Rattle.seek.specs.Seek.{numbered, not_sought}
use Rattle.replies.specs.Replies.{answered_yes, answered_no}
use Rattle.replies.specs.Promised.{put_as}
use Rattle.sought.proofs.Steps.{cues_none, cues_some}
use Rattle.sought.proofs.begin_play.Goals.{in-Ok, in-Err+else-number-ne0}
use Rattle.sought.proofs.begin_play.Goals as goal

pub returns-then-number-ne0 : goal.returns-then-number-ne0
returns-then-number-ne0 c =
    let z = c.if-number-ne0.true in
    rw c.in-Err.is (record { slots = refl; cue = cues_none _ c.in-Err.number _ _ _ z c.silence.ensures; put = put_as (answered_no _ _ z ∙ sym (answered_no _ _ z)) c.put_answer.ensures })

pub returns : goal.returns
returns c =
    let e : numbered c.args.s ≡ numbered (Ok c.match-s.state) = elim c.match-s.branch [
      | in-Ok w ↦ ap numbered w.in-Ok.is ∙ ap (λ (x : State). numbered (Ok x)) (sym w.state-is)
      | in-Err+else-number-ne0 w ↦ ap numbered w.in-Err.is ∙ ap not_sought w.if-number-ne0.false ∙ ap (λ (x : State). numbered (Ok x)) (sym (w.state-is ∙ w.all_zero-state.ensures))
    ] in
    rw e (record { slots = refl; cue = cues_some _ _ _ _ _ c.place_of.ensures; put = put_as (answered_yes _ _ refl) (record { long = refl; fits = omega arith; put = over_none _ }) })
