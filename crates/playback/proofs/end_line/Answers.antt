-- The command is that of what is held of the line.
use Rattle.playback.proofs.Steps.{took_ends}
use Rattle.playback.proofs.end_line.Goals as goal

pub returns : goal.returns
returns c =
    took_ends _ _ _ _ _ _ _ _ _ _ _ _ c.read.ensures c.empty.ensures c.obey-done.ensures
