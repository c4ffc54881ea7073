-- Its callees' promises, put together.
use Rattle.lsp.specs.Lsp as Lsp
use Rattle.lsp.proofs.interpolate_pair.Goals as goal

pub returns : goal.returns
unfolding Lsp.interpolate_pair
returns c = cc
