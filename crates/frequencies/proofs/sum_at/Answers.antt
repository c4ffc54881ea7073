-- The same operations in the same order.
use Rattle.spectral.specs.Spectral.{sum_at}
use Rattle.frequencies.proofs.sum_at.Goals as goal

pub returns : goal.returns
unfolding sum_at
returns c = cc
