-- The parts that the calls give are the definition's.
use Rattle.gain.specs.Gain.{prediction}
use Rattle.gain.specs.Ranges.{at_least_one_no_nan}
use Rattle.gain.proofs.prediction.Goals as goal

pub ln-requires : goal.ln-requires
ln-requires c = rw c.at_least_one.ensures (at_least_one_no_nan c.before.before.args.e)

pub returns : goal.returns
unfolding prediction
returns c = cc
