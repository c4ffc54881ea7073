-- What was found is told by its mark, and what was not by its refusal; 0 refuses nothing.
use Rattle.std.proofs.Common.{refl, sym, ◌∙◌}
use Rattle.state.specs.State.{all_zero}
use Rattle.replies.specs.Replies.{answered_yes, answered_no}
use Rattle.replies.specs.Promised.{put_as}
use Rattle.replies.proofs.tell.Goals as goal

pub returns-in-Ok : goal.returns-in-Ok
returns-in-Ok c = rw c.in-Ok.is (record { slots = refl; silent = c.silence.ensures; put = put_as (answered_yes _ _ refl) c.put_frame_mark.ensures })

pub returns-then-number-eq0 : goal.returns-then-number-eq0
unfolding all_zero
returns-then-number-eq0 c =
    rw c.in-Err.is (record { slots = refl; silent = c.silence.ensures; put = put_as (answered_yes _ _ c.if-number-eq0.true) c.put_frame_mark-then-number-eq0.ensures })

pub returns-else-number-eq0 : goal.returns-else-number-eq0
returns-else-number-eq0 c =
    rw c.in-Err.is (record { slots = refl; silent = c.silence.ensures; put = put_as (answered_no _ _ c.if-number-eq0.false ∙ sym (answered_no _ _ c.if-number-eq0.false)) c.put_answer.ensures })
