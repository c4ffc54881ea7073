-- The state of what reset gives.
use Rattle.heard.proofs.reset.Goals as goal

pub returns : goal.returns
returns c = cc
