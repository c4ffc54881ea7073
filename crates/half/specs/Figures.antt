-- What each figure of a half is made of. The fields alone settle lags, classes, gain indexes, pitch gains and what the subframes leave of gains;
-- the LPC numbers come from the LSPs; the innovation takes in what the subframe and the half before it left, and the code gain the gain history.
use Rattle.std.specs.Prelude.{◌≡◌, List, [], ◌∷◌, ℕ, ℤ, pos, get_or, Float}
use Rattle.std.proofs.Math.Path.{refl}
use Rattle.std.specs.Float.{nan}
use Rattle.floats.specs.Floats.{quantise}
use Rattle.tables.specs.Tables.{log_gain}
use Rattle.tables.specs.Tables as Tables
use Rattle.bits.specs.declared.HalfParams.{HalfParams}
use Rattle.bits.specs.Bits.{gain_index_of}
use Rattle.lsp.specs.Lsp.{interpolate_pair}
use Rattle.pitch.specs.declared.Lag.{Lag}
use Rattle.pitch.specs.Pitch.{decode_absolute, decode_relative}
use Rattle.code_index.specs.Codebook as Codebook
use Rattle.gain.specs.Gain as Gain
use Rattle.half.specs.declared.Core.{Core}
use Rattle.half.specs.declared.Half.{Half}
use Rattle.half.specs.Core as Spec

-- the pitch gain of a gain index, and the gain that its subframe leaves
unfoldable pub pitch_gain_of : List ℕ → ℕ → ℤ
pitch_gain_of bytes index = pos (quantise 32767 (Tables.pitch_gain_of bytes index))

unfoldable pub left : List ℕ → ℕ → ℤ
left bytes index = Spec.clamped (pitch_gain_of bytes index)

-- a gain history with an index's log gain in front
unfoldable pub pushed : List ℕ → List Float → ℕ → List Float
pushed bytes v index = log_gain bytes index ∷ get_or v 0 nan ∷ get_or v 1 nan ∷ get_or v 2 nan ∷ []

module _ (words : List ℤ) (bytes : List ℕ) (core : Core) (lsp : List ℤ) (p : HalfParams) where
  abbrev h : Half
  h = Spec.half words bytes core lsp p

  -- ---- the fields alone
  abbrev first_lag : Lag
  first_lag = decode_absolute p.absolute_pitch

  abbrev second_lag : Lag
  second_lag = decode_relative p.relative_pitch first_lag.integer

  pub lags : (h.first.lag ≡ first_lag) × (h.second.lag ≡ second_lag)
  unfolding Spec.half Spec.first Spec.second Spec.params Spec.decode_subframe Spec.traced Spec.split_params
  lags = (refl, refl)

  pub classes : (h.first.code_class ≡ (Codebook.decode words p.code0).class) × (h.second.code_class ≡ (Codebook.decode words p.code1).class)
  unfolding Spec.half Spec.first Spec.second Spec.params Spec.decode_subframe Spec.traced Spec.split_params Spec.innovation Spec.shaped
  classes = (refl, refl)

  pub indexes : (h.first.gain_index ≡ gain_index_of p 0) × (h.second.gain_index ≡ gain_index_of p 1)
  unfolding Spec.half Spec.first Spec.second Spec.params Spec.decode_subframe Spec.traced Spec.split_params
  indexes = (refl, refl)

  pub pitch_gains : (h.first.pitch_gain ≡ pitch_gain_of bytes (gain_index_of p 0)) × (h.second.pitch_gain ≡ pitch_gain_of bytes (gain_index_of p 1))
  unfolding Spec.half Spec.first Spec.second Spec.params Spec.decode_subframe Spec.traced Spec.split_params Gain.decode Gain.step pitch_gain_of
  pitch_gains = (refl, refl)

  -- ---- the spectrum
  pub lpcs : (h.first.lpc ≡ (interpolate_pair core.lsp lsp).first) × (h.second.lpc ≡ (interpolate_pair core.lsp lsp).second)
  unfolding Spec.half Spec.first Spec.second Spec.params Spec.decode_subframe Spec.traced Spec.split_params
  lpcs = (refl, refl)

  -- ---- the past
  pub histories : (h.first.gains ≡ core.gains) × (h.second.gains ≡ pushed bytes core.gains (gain_index_of p 0))
  unfolding Spec.half Spec.first Spec.second Spec.params Spec.decode_subframe Spec.traced Spec.split_params Gain.decode Gain.step pushed
  histories = (refl, refl)

  abbrev first_innovation : List ℤ
  first_innovation = (Spec.innovation words (Spec.split_params core.lsp lsp p).first core.sharpen_fixed core.last_half_lag).code

  abbrev second_innovation : List ℤ
  second_innovation = (Spec.innovation words (Spec.split_params core.lsp lsp p).second (left bytes (gain_index_of p 0)) core.last_half_lag).code

  pub innovations : (h.first.innovation ≡ first_innovation) × (h.second.innovation ≡ second_innovation)
  unfolding Spec.half Spec.first Spec.second Spec.params Spec.decode_subframe Spec.traced Spec.split_params Gain.decode Gain.step left pitch_gain_of
  innovations = (refl, refl)

  pub code_gains : (h.first.code_gain ≡ (Gain.decode bytes core.gains (gain_index_of p 0) first_innovation).code_gain) × (h.second.code_gain ≡ (Gain.decode bytes (pushed bytes core.gains (gain_index_of p 0)) (gain_index_of p 1) second_innovation).code_gain)
  unfolding Spec.half Spec.first Spec.second Spec.params Spec.decode_subframe Spec.traced Spec.split_params Gain.decode Gain.step left pitch_gain_of pushed
  code_gains = (refl, refl)

  -- ---- what the next half starts from
  pub left_lsp : h.core.lsp ≡ lsp
  unfolding Spec.half
  left_lsp = refl

  pub left_fixed : h.core.sharpen_fixed ≡ left bytes (gain_index_of p 1)
  unfolding Spec.half Spec.second Spec.params Spec.decode_subframe Spec.traced Spec.split_params Gain.decode Gain.step left pitch_gain_of
  left_fixed = refl

  pub left_lag : h.core.last_half_lag ≡ second_lag.integer
  unfolding Spec.half Spec.second Spec.params Spec.decode_subframe Spec.traced Spec.split_params
  left_lag = refl

  pub left_gains : h.core.gains ≡ pushed bytes (pushed bytes core.gains (gain_index_of p 0)) (gain_index_of p 1)
  unfolding Spec.half Spec.first Spec.second Spec.params Spec.decode_subframe Spec.traced Spec.split_params Gain.decode Gain.step pushed
  left_gains = refl
