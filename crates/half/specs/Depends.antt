-- A subframe's figures do not see the excitation. Two halves of the same fields and LSPs that start from the same LSPs, sharpening gain, last lag and gain history
-- have the same figures, whatever excitation, synthesis memory and output filter they start from.
use Rattle.std.specs.Prelude.{◌≡◌, List, [], ◌∷◌, ℕ, ℤ, Float}
use Rattle.std.proofs.Math.Path.{refl, ap}
use Rattle.std.proofs.Common.{sym, ◌∙◌}
use Rattle.tables.specs.Tables.{log_gain}
use Rattle.bits.specs.declared.HalfParams.{HalfParams}
use Rattle.bits.specs.Bits.{gain_index_of}
use Rattle.gain.specs.Gain as Gain
use Rattle.half.specs.declared.Core.{Core}
use Rattle.half.specs.declared.SubframeParams.{SubframeParams}
use Rattle.half.specs.declared.SubframeTrace.{SubframeTrace}
use Rattle.half.specs.declared.Half.{Half}
use Rattle.half.specs.Core as Spec
use Rattle.half.specs.Figures.{left_lsp, left_fixed, pushed}

-- a trace but for its excitation
unfoldable pub figures : SubframeTrace → SubframeTrace
figures t = record {
  lag = t.lag;
  code_class = t.code_class;
  gain_index = t.gain_index;
  pitch_gain = t.pitch_gain;
  code_gain = t.code_gain;
  gains = t.gains;
  lpc = t.lpc;
  innovation = t.innovation;
  mixed_excitation = [];
  zero_residuals = t.zero_residuals;
}

-- equal in all that the figures of the next half see
pub record Alike (c d : Core) : Type 0 where
  pub lsp : c.lsp ≡ d.lsp
  pub fixed : c.sharpen_fixed ≡ d.sharpen_fixed
  pub lag : c.last_half_lag ≡ d.last_half_lag
  pub gains : c.gains ≡ d.gains

-- both subframes of two halves have the same figures
pub record SameFigures (x y : Half) : Type 0 where
  pub first : figures x.first ≡ figures y.first
  pub second : figures x.second ≡ figures y.second

-- ---- a subframe
module _ (words : List ℤ) (bytes : List ℕ) (p : SubframeParams) (sharpenFixed lastHalfLag : ℤ) (gains : List Float) where
  pub subframe_figures : (x y : List ℤ) (i j : ℕ) → figures (Spec.decode_subframe words bytes x i p sharpenFixed lastHalfLag gains).trace ≡ figures (Spec.decode_subframe words bytes y j p sharpenFixed lastHalfLag gains).trace
  unfolding figures Spec.decode_subframe Spec.traced
  subframe_figures x y i j = refl

-- ---- a half
module _ (words : List ℤ) (bytes : List ℕ) (lsp : List ℤ) (p : HalfParams) where
  abbrev half : Core → Half
  half c = Spec.half words bytes c lsp p

  pub half_figures : (c d : Core) → Alike c d → SameFigures (half c) (half d)
  unfolding figures Spec.half Spec.first Spec.second Spec.params Spec.decode_subframe Spec.traced
  half_figures c d a = record { first = rw (a.lsp, a.fixed, a.lag, a.gains); second = rw (a.lsp, a.fixed, a.lag, a.gains) }

  -- and it leaves the same LSPs, gain and lag in any case, the same gain history where it starts from the same
  pub half_alike : (c d : Core) → c.gains ≡ d.gains → Alike (half c).core (half d).core
  unfolding Spec.half Spec.first Spec.second Spec.params Spec.decode_subframe Spec.traced Spec.split_params Gain.decode Gain.step pushed
  half_alike c d g =
      let k : (x : Core) → (half x).core.gains ≡ pushed bytes (pushed bytes x.gains (gain_index_of p 0)) (gain_index_of p 1) = λ x. refl in
      record {
        lsp = left_lsp words bytes c lsp p ∙ sym (left_lsp words bytes d lsp p);
        fixed = left_fixed words bytes c lsp p ∙ sym (left_fixed words bytes d lsp p);
        lag = refl;
        gains = k c ∙ ap (λ (v : List Float). pushed bytes (pushed bytes v (gain_index_of p 0)) (gain_index_of p 1)) g ∙ sym (k d);
      }

-- ---- two halves, one after the other
-- the log gains of their four subframes, the newest first
unfoldable pub log_gains : List ℕ → HalfParams → HalfParams → List Float
log_gains bytes p q = log_gain bytes (gain_index_of q 1) ∷ log_gain bytes (gain_index_of q 0) ∷ log_gain bytes (gain_index_of p 1) ∷ log_gain bytes (gain_index_of p 0) ∷ []

-- replace the whole gain history
pub history_replaced : (words : List ℤ) (bytes : List ℕ) (c : Core) (l m : List ℤ) (p q : HalfParams) → (Spec.half words bytes (Spec.half words bytes c l p).core m q).core.gains ≡ log_gains bytes p q
unfolding log_gains pushed Spec.half Spec.first Spec.second Spec.params Spec.decode_subframe Spec.traced Spec.split_params Gain.decode Gain.step
history_replaced words bytes c l m p q = refl
