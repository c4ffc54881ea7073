-- By a code alone, or by the lag integer before it and a relative code.
use Rattle.pitch.specs.Lags.{relative_sane}
use Rattle.replay_voice.proofs.of_pitch.asked.Goals as goal

pub returns : goal.returns
returns c = let r = c.before.before.before.relative in rw c.decode_relative.ensures (relative_sane r.result _ r.ensures)
