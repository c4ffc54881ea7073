-- What a frame of an accepted set leaves: residuals and gains that are as many as before, finite and within 131,072.
use Rattle.std.specs.Prelude.{ℕ, ◌≡◌, List, ℤ, Float, take}
use Rattle.std.proofs.Common.{◌∙◌, arith}
use Rattle.std.proofs.Math.ListN.{length, length-append}
use Rattle.std.proofs.Math.Seq.{length-take-le}
use Rattle.tables.specs.Sound.{Sound}
use Rattle.bits.specs.declared.HalfParams.{HalfParams}
use Rattle.bits.specs.declared.FrameParams.{FrameParams}
use Rattle.bits.specs.Widths.{InWidths}
use Rattle.gain.specs.Ranges as Gain
use Rattle.spectral.specs.Spectral as Spectral
use Rattle.floats.specs.Within.{Bounded}
use Rattle.spectral.specs.Kept.{Words16, residual_kept, length_residual, push_kept}
use Rattle.half.specs.declared.Core.{Core}
use Rattle.half.specs.Kept.{gains_long, gains_kept}
use Rattle.observation.specs.Frame.{residual, half, halves, report, decode}

-- the residuals, and the gains, of a state that obeys the rule
pub record Kept (residuals gains : List Float) : Type 0 where
  pub residuals_long : length residuals ≡ 30
  pub residuals_within : Bounded 131072 30 residuals
  pub gains_long : length gains ≡ 4
  pub gains_within : Gain.Bounded gains

module _ {words : List ℤ} {bytes : List ℕ} (w : Words16 words) (s : Sound words bytes) where
  pub half_kept : (core : Core) (residuals : List Float) (p : HalfParams) → InWidths p → Kept residuals core.gains
      → Kept (half words bytes core residuals p).residuals (half words bytes core residuals p).half.core.gains
  unfolding half residual Spectral.push
  half_kept core residuals p i k =
      let own = residual words bytes p in
      let own_long : length own ≡ 10 = length_residual words bytes p.stage1 p.stage2_low p.stage2_high in
      record {
        residuals_long = length-append own (take 20 residuals) ∙ omega (arith, length-take-le 20 residuals (let l = k.residuals_long in omega arith));
        residuals_within = push_kept residuals own own_long k.residuals_within (residual_kept words bytes w s.of_bytes p.stage1 p.stage2_low p.stage2_high i.stage2_low i.stage2_high);
        gains_long = gains_long words bytes core _ p;
        gains_within = gains_kept words bytes core _ p s.of_bytes k.gains_within;
      }

  pub decode_kept : (core : Core) (residuals : List Float) (f : FrameParams) → InWidths f.first → InWidths f.second → Kept residuals core.gains
      → Kept (decode words bytes core residuals f).residuals (decode words bytes core residuals f).core.gains
  unfolding decode report halves
  decode_kept core residuals f i j k =
      let a = half words bytes core residuals f.first in
      half_kept a.half.core a.residuals f.second j (half_kept core residuals f.first i k)
