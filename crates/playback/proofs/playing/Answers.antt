-- A frame is left just where one is asked for and there is one.
use Rattle.playback.proofs.Steps.{none_left, some_left}
use Rattle.playback.proofs.playing.Goals as goal

pub returns-then-cue-eq0 : goal.returns-then-cue-eq0
returns-then-cue-eq0 c = none_left _ _ c.if-cue-eq0.true

pub returns : goal.returns
returns c = some_left _ _ c.if-cue-eq0.false
