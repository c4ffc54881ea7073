-- The parts that the calls give are the definition's.
use mathlib.Core.Path.{◌∙◌}
use Rattle.gain.specs.Gain.{decode, step}
use Rattle.gain_state.proofs.decode.Goals as goal

pub returns : goal.returns
unfolding decode
returns c =
    let b = c.before.before.before in
    c.step.ensures
    ∙ (λ i. step b.before.before.before.args.gains (c.before.before.energy.ensures i) (b.before.pitch_gain-pitch_gain.ensures i) (b.log_gain-correction.ensures i) (c.before.gain_bias.ensures i))
