-- The window holds the taps of the lag's phase, so what it predicts is the filter's; each sample comes from at most 153 and at least 10 before it.
use native.Mathlib.Omega.{arith}
use mathlib.Core.Path.{◌∙◌, ap}
use Prim.Native.Nat.{ℕ, ◌+◌, ◌≤◌}
use lib.ListN.{length}
use Rattle.sequence.specs.Rewritten.{rewritten}
use Rattle.pitch.specs.Pitch as Pitch
use Rattle.pitch.specs.Lags.{sane_phase, sane_delay}
use Rattle.adaptive.proofs.Taps.{length_interp}
use Rattle.adaptive.proofs.Filter.{windowed_of, predicted_is, clipped_by, clipped_is}
use Rattle.adaptive.proofs.predict.Goals as goal

pub new-taps-requires : goal.new-taps-requires
new-taps-requires c = (ap length c.interp.ensures ∙ length_interp c.args.words.now c.requires.0, rw c.phase.ensures (sane_phase c.args.lag c.requires.3))

pub predict_from-requires : goal.predict_from-requires
predict_from-requires c =
    let r : (20 ≤ c.delay.result) × (c.delay.result ≤ 144) = rw c.delay.ensures (sane_delay c.args.lag c.requires.3) in
    (c.requires.1, c.requires.2, r.0, r.1)

pub returns : goal.returns
unfolding Pitch.predict Pitch.clipped
returns c =
    let a = c.args in
    let taps = Pitch.interp a.words.now in
    let w = windowed_of c.interp.ensures c.phase.ensures c.new-taps.ensures in
    let r : (20 ≤ c.delay.result) × (c.delay.result ≤ 144) = rw c.delay.ensures (sane_delay a.lag c.requires.3) in
    let reach : c.delay.result + 9 ≤ a.at = omega (arith, r, c.requires.1) in record {
      samples = c.predict_from.ensures.samples
          ∙ predicted_is taps c.new-taps.result.window (Pitch.phase a.lag) w c.delay.result a.at a.exc.now 80 reach
          ∙ ap (λ (n : ℕ). rewritten (Pitch.predicted taps (Pitch.phase a.lag) n a.at) a.at a.exc.now 80) c.delay.ensures;
      clipped = c.predict_from.ensures.clipped
          ∙ clipped_is taps c.new-taps.result.window (Pitch.phase a.lag) w c.delay.result a.at a.exc.now reach
          ∙ ap (clipped_by taps (Pitch.phase a.lag) a.at a.exc.now) c.delay.ensures;
    }
