-- The tests are the definition's.
use Rattle.tally.specs.Carried.{numbered}
use Rattle.counting.proofs.numbered.Goals as goal

pub returns : goal.returns
unfolding numbered
returns c = cc
