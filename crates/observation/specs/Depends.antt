-- What a frame's figures see of the past. After the same frame two decoders agree on gain history, sharpening gain, last lag and twenty of the thirty residuals,
-- whatever they started from; after one more on the LSPs and all residuals too; and from there on the figures of each frame are the same.
use Rattle.std.specs.Prelude.{◌≡◌, refl, List, ℕ, ℤ, Float, take}
use Rattle.std.proofs.Math.Path.{sym}
use Rattle.std.proofs.Common.{ap, ◌∙◌}
use Rattle.sequence.specs.Table.{table}
use Rattle.bits.specs.declared.FrameParams.{FrameParams}
use Rattle.spectral.specs.Spectral as Spectral
use Rattle.half.specs.declared.Core.{Core}
use Rattle.half.specs.declared.Half.{Half}
use Rattle.half.specs.declared.SubframeTrace.{SubframeTrace}
use Rattle.half.specs.Core as HalfFrame
use Rattle.half.specs.Figures.{left_lsp, left_fixed, left_lag}
use Rattle.half.specs.Depends as Core
use Rattle.observation.specs.declared.Decoded.{Decoded}
use Rattle.observation.specs.Frame.{residual, lsp, half, figures, reported, subframes, halves, report, decode}

-- c with the residuals r and d with q agree as they do after one frame that is the same
pub record AfterOne (c d : Core) (r q : List Float) : Type 0 where
  pub fixed : c.sharpen_fixed ≡ d.sharpen_fixed
  pub lag : c.last_half_lag ≡ d.last_half_lag
  pub gains : c.gains ≡ d.gains
  pub residuals : take 20 r ≡ take 20 q

-- and after two
pub record AfterTwo (c d : Core) (r q : List Float) : Type 0 where
  pub alike : Core.Alike c d
  pub residuals : r ≡ q

-- ---- what is reported of a subframe are its figures
reported_figures : (bytes : List ℕ) (t u : SubframeTrace) → Core.figures t ≡ Core.figures u → reported bytes t ≡ reported bytes u
unfolding reported figures Core.figures
reported_figures bytes t u e = ap (reported bytes) e

subframes_same : (bytes : List ℕ) (x y v w : Half) → Core.SameFigures x v → Core.SameFigures y w → subframes bytes x y ≡ subframes bytes v w
unfolding subframes
subframes_same bytes x y v w a b = rw (reported_figures bytes _ _ a.first, reported_figures bytes _ _ a.second, reported_figures bytes _ _ b.first, reported_figures bytes _ _ b.second)

-- ---- a frame
module _ (words : List ℤ) (bytes : List ℕ) (f : FrameParams) where
  abbrev frame : Core → List Float → Decoded
  frame c r = decode words bytes c r f

  -- from anything that two decoders start from
  pub frame_one : (c d : Core) (r q : List Float) → AfterOne (frame c r).core (frame d q).core (frame c r).residuals (frame d q).residuals
  unfolding decode report halves half residual Spectral.push Spectral.residual table
  frame_one c d r q = record {
    fixed = left_fixed words bytes _ _ f.second ∙ sym (left_fixed words bytes _ _ f.second);
    lag = left_lag words bytes _ _ f.second ∙ sym (left_lag words bytes _ _ f.second);
    gains = Core.history_replaced words bytes c _ _ f.first f.second ∙ sym (Core.history_replaced words bytes d _ _ f.first f.second);
    residuals = refl;
  }

  -- from what agrees as after one
  pub frame_two : (c d : Core) (r q : List Float) → AfterOne c d r q → AfterTwo (frame c r).core (frame d q).core (frame c r).residuals (frame d q).residuals
  unfolding decode report halves half Spectral.push
  frame_two c d r q a =
      let o = frame_one c d r q in
      record {
        alike = record {
          lsp = left_lsp words bytes _ _ f.second ∙ rw a.residuals (sym (left_lsp words bytes _ _ f.second));
          fixed = o.fixed;
          lag = o.lag;
          gains = o.gains;
        };
        residuals = rw a.residuals;
      }

  -- from what agrees as after two: both halves see the same
  pub frame_figures : (c d : Core) (r q : List Float) → AfterTwo c d r q → (frame c r).subframes ≡ (frame d q).subframes
  unfolding decode report halves half
  frame_figures c d r q a =
      let x = HalfFrame.half words bytes c (lsp words bytes q f.first) f.first in
      let y = HalfFrame.half words bytes d (lsp words bytes q f.first) f.first in
      let h = Spectral.push q (residual words bytes f.first) in
      rw a.residuals
      (subframes_same bytes x (HalfFrame.half words bytes x.core (lsp words bytes h f.second) f.second) y (HalfFrame.half words bytes y.core (lsp words bytes h f.second) f.second)
      (Core.half_figures words bytes (lsp words bytes q f.first) f.first c d a.alike)
      (Core.half_figures words bytes (lsp words bytes h f.second) f.second x.core y.core (Core.half_alike words bytes (lsp words bytes q f.first) f.first c d a.alike.gains)))
