-- The state of what missed_frame gives.
use Rattle.heard.proofs.missed.Goals as goal

pub returns : goal.returns
returns c = cc
