-- Predicted, and then mixed.
use mathlib.Core.Path.{◌∙◌, ap}
use mathlib.Core.List.{List}
use lib.IntN.{ℤ}
use mir.Syntax.{w16}
use mir.ValLaws.{to_z-of_z}
use Rattle.half.specs.Core as Spec
use Rattle.subframe.proofs.excite.Goals as goal

pub returns : goal.returns
unfolding Spec.excited Spec.counts
returns c =
    let m = simp (to_z-of_z w16 _ c.ranges.pitch_gain, to_z-of_z w16 _ c.ranges.code_gain) at c.mix-mixing.ensures in record {
      samples = m.samples ∙ ap (λ (l : List ℤ). Spec.mix c.args.pitch_gain c.args.code_gain c.args.innovation.now c.args.start l) c.predict-prediction.ensures.samples;
      counts = λ i. record {
        prediction = c.predict-prediction.ensures.clipped i;
        mixing = (m.clipped ∙ ap (λ (l : List ℤ). Spec.mix_clipped c.args.pitch_gain c.args.code_gain c.args.innovation.now c.args.start l) c.predict-prediction.ensures.samples) i;
      };
    }
