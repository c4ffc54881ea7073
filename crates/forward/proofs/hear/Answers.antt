-- The call's state is the answer's.
use mathlib.Core.Path.{ap}
use Rattle.calls.specs.declared.Answer.{Answer}
use Rattle.calls.specs.Run.{step}
use Rattle.forward.proofs.hear.Goals as goal

pub returns : goal.returns
unfolding step
returns c = ap (λ (a : Answer). a.state) c.decode-a.ensures.answer
