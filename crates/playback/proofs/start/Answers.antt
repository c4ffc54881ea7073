-- Zeros, no line, nothing to play.
use mathlib.Core.Bool.{false}
use Rattle.playback.specs.Turns.{start}
use Rattle.playback.proofs.start.Goals as goal

pub returns : goal.returns
returns c =
    λ i. record { slots = start.slots; line = c.empty.ensures i; cue = c.silence.ensures i; told = false }
