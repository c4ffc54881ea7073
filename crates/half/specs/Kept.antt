-- What a half keeps to, whatever it starts from: the gain that it leaves lies in 3277..=13017, its lags' integers in 19..=144, gain indexes below 128, classes within 5;
-- and a gain history that obeys the state rule is followed by one that does.
use Rattle.std.proofs.Common.{arith, ltb-false}
use Rattle.std.specs.Prelude.{◌≡◌, refl, Bool, true, false, cond, List, ℕ, ◌≤◌, ◌<◌, ltb, ℤ, pos, negsuc, length}
use Rattle.sequence.specs.Between.{Between}
use Rattle.fixed.specs.Fixed.{clamp}
use Rattle.tables.specs.Sound.{SoundBytes}
use Rattle.bits.specs.declared.HalfParams.{HalfParams}
use Rattle.bits.specs.Bits.{gain_index_of}
use Rattle.bits.specs.Widths.{InWidths}
use Rattle.bits.specs.GainIndex.{gain_index_lt}
use Rattle.pitch.specs.Pitch as Pitch
use Rattle.pitch.specs.Lags.{absolute_sane, relative_sane, sane_integer}
use Rattle.code_index.specs.Codebook as Codebook
use Rattle.code_index.specs.Ranges.{class_at_most}
use Rattle.gain.specs.Gain as Gain
use Rattle.gain.specs.Ranges.{Bounded}
use Rattle.gain.specs.Kept.{decode_bounded}
use Rattle.half.specs.declared.Core.{Core}
use Rattle.half.specs.declared.Half.{Half}
use Rattle.half.specs.Core as Spec
use Rattle.half.specs.Figures.{lags, classes, indexes, left_fixed, left}

-- ---- the gain that a subframe leaves
abbrev InGains : ℤ → Type 0
InGains z = Between 3277 13017 z

pub clamped_range : (z : ℤ) → InGains (Spec.clamped z)
unfolding Spec.clamped clamp
clamped_range (negsuc n) = record { is = refl; least = omega arith; most = omega arith }
clamped_range (pos n) = go (ltb n 3277) (ltb 13017 n) refl refl
  where
    go : (s t : Bool) → ltb n 3277 ≡ s → ltb 13017 n ≡ t → InGains (cond s (pos 3277) (cond t (pos 13017) (pos n)))
    go true t e f = record { is = refl; least = omega arith; most = omega arith }
    go false true e f = record { is = refl; least = omega arith; most = omega arith }
    go false false e f = record { is = refl; least = ltb-false n 3277 e; most = ltb-false 13017 n f }

-- ---- classes
pub class_le : (words : List ℤ) (index : ℕ) → (Codebook.decode words index).class ≤ 5
unfolding Codebook.decode Codebook.innovation Codebook.classify
class_le words index = class_at_most words (Codebook.cut words index)

-- ---- a half
module _ (words : List ℤ) (bytes : List ℕ) (core : Core) (lsp : List ℤ) (p : HalfParams) where
  abbrev h : Half
  h = Spec.half words bytes core lsp p

  pub fixed_kept : InGains h.core.sharpen_fixed
  unfolding left
  fixed_kept = rw (left_fixed words bytes core lsp p) (clamped_range _)

  pub indexes_kept : (h.first.gain_index < 128) × (h.second.gain_index < 128)
  indexes_kept = rw ((indexes words bytes core lsp p).0, (indexes words bytes core lsp p).1) (gain_index_lt p 0, gain_index_lt p 1)

  pub classes_kept : (h.first.code_class ≤ 5) × (h.second.code_class ≤ 5)
  classes_kept = rw ((classes words bytes core lsp p).0, (classes words bytes core lsp p).1) (class_le words p.code0, class_le words p.code1)

  pub gains_long : length h.core.gains ≡ 4
  unfolding Spec.half Spec.first Spec.second Spec.params Spec.decode_subframe Spec.traced Spec.split_params Gain.decode Gain.step
  gains_long = refl

  module _ (w : InWidths p) where
    pub lags_kept : Pitch.Sane h.first.lag × Pitch.Sane h.second.lag
    lags_kept = rw ((lags words bytes core lsp p).0, (lags words bytes core lsp p).1) (absolute_sane p.absolute_pitch w.absolute_pitch, relative_sane p.relative_pitch _ w.relative_pitch)

    pub lag_kept : Pitch.InRange h.core.last_half_lag
    unfolding Spec.half Spec.second Spec.params Spec.decode_subframe Spec.traced Spec.split_params
    lag_kept = sane_integer _ (relative_sane p.relative_pitch _ w.relative_pitch)

  pub gains_kept : SoundBytes bytes → Bounded core.gains → Bounded h.core.gains
  unfolding Spec.half Spec.second Spec.first Spec.params Spec.decode_subframe Spec.traced Spec.split_params
  gains_kept s b = decode_bounded s _ (decode_bounded s core.gains b (gain_index_of p 0) (gain_index_lt p 0) _) (gain_index_of p 1) (gain_index_lt p 1) _
