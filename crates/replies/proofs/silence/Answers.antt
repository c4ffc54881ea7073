-- Nothing to play.
use mathlib.Core.Path.{ap}
use Rattle.state.specs.declared.State.{State}
use Rattle.replies.specs.declared.Cue.{Cue}
use Rattle.replies.proofs.silence.Goals as goal

pub returns : goal.returns
returns c = ap {B = Cue} (λ (s : State). record { state = s; place = 0; left = 0 }) c.all_zero.ensures
