-- The frequencies of an accepted frame are those that the Rust's sort_by(f32::total_cmp) leads to: the ten sums of each half hold no NaN, and where -0 and +0 both stand among them their order is lost.
use Rattle.std.specs.Prelude.{ℕ, ◌≡◌, List, ℤ, Float}
use Rattle.tables.specs.Sound.{SoundBytes}
use Rattle.bits.specs.declared.HalfParams.{HalfParams}
use Rattle.bits.specs.Bits.{fields_of}
use Rattle.bits.specs.Widths.{InWidths, within_names, fields_within}
use Rattle.spectral.specs.Spectral as Spectral
use Rattle.floats.specs.Within.{Bounded}
use Rattle.spectral.specs.Kept.{Words16, residual_kept, length_residual, push_kept}
use Rattle.sequence.specs.Lists.{Same, Rising}
use Rattle.spectral.specs.TotalCmp.{total_le}
use Rattle.spectral.specs.Predicted.{predict_any}
use Rattle.half.specs.Figures.{left_lsp}
use Rattle.observation.specs.Frame as Frame
use Rattle.state.specs.declared.State.{State}
use Rattle.calls.specs.Celp.{refusal, carried}
use Rattle.calls.specs.Accepted.{accepted_means}
use Rattle.calls.specs.StateRule.{Obeying, kept}

module _ (words : List ℤ) (bytes : List ℕ) where
  -- the ten sums of a half, by the residuals before it
  abbrev pub sums : List Float → HalfParams → List Float
  sums past p = Spectral.sums past (Frame.residual words bytes p) bytes p.mode

  -- its frequencies
  abbrev pub frequencies : List Float → HalfParams → List Float
  frequencies past p = Spectral.predict past (Frame.residual words bytes p) bytes p.mode

  -- whatever holds its sums, each as often, and rises by total_cmp is spread to its frequencies
  abbrev pub ByTotalCmp : List Float → HalfParams → Type 0
  ByTotalCmp past p = (l : List Float) → Same l (sums past p) → Rising total_le l → Spectral.spread l ≡ frequencies past p

  module _ (w : Words16 words) (b : SoundBytes bytes) where
    own_kept : (p : HalfParams) → InWidths p → Bounded 131072 10 (Frame.residual words bytes p)
    unfolding Frame.residual
    own_kept p i = residual_kept words bytes w b p.stage1 p.stage2_low p.stage2_high i.stage2_low i.stage2_high

    half_sorted : (past : List Float) (p : HalfParams) → InWidths p → Bounded 131072 30 past → ByTotalCmp past p
    half_sorted past p i k = predict_any past (Frame.residual words bytes p) bytes p.mode b i.mode k (own_kept p i)

    push_own : (past : List Float) (p : HalfParams) → InWidths p → Bounded 131072 30 past → Bounded 131072 30 (Spectral.push past (Frame.residual words bytes p))
    unfolding Frame.residual
    push_own past p i k = push_kept past (Frame.residual words bytes p) (length_residual words bytes p.stage1 p.stage2_low p.stage2_high) k (own_kept p i)

  -- both halves of an accepted frame: the first by the state's residuals, the second by those with the first's own before them
  pub sorted_by_total_cmp : Words16 words → (s : State) (payload : List ℕ) (room : ℕ) → Obeying s → refusal words bytes s payload room ≡ 0
      → ByTotalCmp s.residuals (fields_of payload).first × ByTotalCmp (Spectral.push s.residuals (Frame.residual words bytes (fields_of payload).first)) (fields_of payload).second
  sorted_by_total_cmp w s payload room o z =
      let b = (accepted_means words bytes s payload room z).set_sound.of_bytes in
      let i = within_names (fields_of payload) (fields_within payload) in
      let k = (kept s o).residuals_within in
      (half_sorted w b s.residuals (fields_of payload).first i.0 k, half_sorted w b _ (fields_of payload).second i.1 (push_own w b s.residuals (fields_of payload).first i.0 k))

  -- these are the residuals that the two halves' LSPs are predicted from
  pub halves_lsp : (s : State) (payload : List ℕ) →
      ((Frame.halves words bytes (carried s) s.residuals (fields_of payload)).first.half.core.lsp ≡ Frame.lsp words bytes s.residuals (fields_of payload).first)
      × ((Frame.halves words bytes (carried s) s.residuals (fields_of payload)).second.half.core.lsp ≡ Frame.lsp words bytes (Spectral.push s.residuals (Frame.residual words bytes (fields_of payload).first)) (fields_of payload).second)
  unfolding Frame.halves Frame.half
  halves_lsp s payload = (left_lsp words bytes _ _ (fields_of payload).first, left_lsp words bytes _ _ (fields_of payload).second)
