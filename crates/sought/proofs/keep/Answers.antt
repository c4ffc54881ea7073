-- What was found is saved, what was not is told; 0 refuses nothing, and gives the all-zero state.
use Rattle.std.proofs.Common.{◌≡◌, ◌∙◌, sym, ap, Ok}
use Rattle.state.specs.declared.State.{State}
use Rattle.seek.specs.Seek.{numbered, not_sought}
use Rattle.replies.specs.Promised.{shelf}
use Rattle.sought.proofs.Steps.{not_kept, is_kept}
use Rattle.sought.proofs.keep.Goals.{in-Ok, in-Err+else-number-ne0}
use Rattle.sought.proofs.keep.Goals as goal

pub returns-then-number-ne0 : goal.returns-then-number-ne0
returns-then-number-ne0 c =
    let p = not_kept (shelf c.args.slots c.args.images.now) c.args.k c.args.room.now _ _ _ c.silence.ensures c.in-Err.number _ _ c.if-number-ne0.true c.put_answer.ensures in
    rw c.in-Err.is (record { quiet = p.0; images_after = p.1 })

pub returns : goal.returns
returns c =
    let e : numbered c.args.s ≡ numbered (Ok c.match-s.state) = elim c.match-s.branch [
      | in-Ok w ↦ ap numbered w.in-Ok.is ∙ ap (λ (x : State). numbered (Ok x)) (sym w.state-is)
      | in-Err+else-number-ne0 w ↦ ap numbered w.in-Err.is ∙ ap not_sought w.if-number-ne0.false ∙ ap (λ (x : State). numbered (Ok x)) (sym (w.state-is ∙ w.all_zero-state.ensures))
    ] in
    let p = is_kept (shelf c.args.slots c.args.images.now) c.args.k c.args.room.now _ _ _ c.silence-2.ensures c.match-s.state _ _ _ c.save-answer.ensures c.put_result.ensures in
    rw e (record { quiet = p.0; images_after = p.1 })
