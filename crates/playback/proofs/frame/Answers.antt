-- The line that is held is the frame's, and behind it stands the next.
use Rattle.playback.proofs.Steps.{plays}
use Rattle.playback.proofs.frame.Goals as goal

pub returns : goal.returns
returns c =
    plays c.args.words.now c.args.bytes.now c.args.recording.now c.args.cue c.args.room.now _ _ _ _ _ c.requires.fact_1 c.requires.fact_2 c.line_end-e.ensures.end c.behind.ensures c.held.ensures c.call-said.ensures.said c.call-said.ensures.text c.call-said.ensures.fits
