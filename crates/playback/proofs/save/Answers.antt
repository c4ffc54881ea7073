-- What is kept is what was found.
use Rattle.playback.proofs.save.Goals as goal

pub returns : goal.returns
returns c =
    rw (← c.found-s.ensures, ← c.numbered.ensures) c.keep.ensures
