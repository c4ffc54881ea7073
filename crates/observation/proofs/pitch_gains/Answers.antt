-- The four are the definition's.
use borrow.Author.Rules.{rules}
use Rattle.observation.specs.Frame.{pitch_gains_of}
use Rattle.observation.proofs.pitch_gains.Goals as goal

pub returns : goal.returns
unfolding pitch_gains_of
returns c = search rules
