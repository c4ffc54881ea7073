-- The parts of a half, each by those before it, are the parts of its definition.
use Rattle.std.specs.Prelude.{◌≡◌, ℕ, List, ℤ}
use mathlib.Core.Path.{◌∙◌}
use Rattle.bits.specs.declared.HalfParams.{HalfParams}
use Rattle.output_filter.specs.Postfilter as Postfilter
use Rattle.half.specs.declared.Core.{Core}
use Rattle.half.specs.declared.Counts.{Counts}
use Rattle.half.specs.declared.Filtered.{Filtered}
use Rattle.half.specs.declared.ParamsPair.{ParamsPair}
use Rattle.half.specs.declared.Subframe.{Subframe}
use Rattle.half.specs.declared.Half.{Half}
use Rattle.half.specs.declared.Synthesised.{Synthesised}
use Rattle.half.specs.Core as Spec

-- the subframes, and the excitation before, between and behind them
pub record Subframes (words : List ℤ) (bytes : List ℕ) (core : Core) (lsp : List ℤ) (p : HalfParams) (a b : Subframe) (behind : List ℤ) : Type 0 where
  pub pair : ParamsPair
  pub room : List ℤ
  pub between : List ℤ
  pub pair_is : pair ≡ Spec.split_params core.lsp lsp p
  pub room_is : room ≡ Spec.room core.excitation
  pub a_is : a ≡ Spec.decode_subframe words bytes room 154 pair.first core.sharpen_fixed core.last_half_lag core.gains
  pub between_is : between ≡ Spec.excited_by words room 154 a.trace
  pub b_is : b ≡ Spec.decode_subframe words bytes between 234 pair.second a.sharpen_fixed core.last_half_lag a.gains
  pub behind_is : behind ≡ Spec.excited_by words between 234 b.trace

module _ {words : List ℤ} {bytes : List ℕ} {core : Core} {lsp : List ℤ} {p : HalfParams} {a b : Subframe} {behind : List ℤ} (s : Subframes words bytes core lsp p a b behind) where
  first_is : a ≡ Spec.first words bytes core lsp p
  unfolding Spec.first Spec.params
  first_is = s.a_is ∙ (λ i. Spec.decode_subframe words bytes (s.room_is i) 154 (s.pair_is i).first core.sharpen_fixed core.last_half_lag core.gains)

  between_is : s.between ≡ Spec.between words bytes core lsp p
  unfolding Spec.between
  between_is = s.between_is ∙ (λ i. Spec.excited_by words (s.room_is i) 154 (first_is i).trace)

  second_is : b ≡ Spec.second words bytes core lsp p
  unfolding Spec.second Spec.params
  second_is = s.b_is ∙ (λ i. Spec.decode_subframe words bytes (between_is i) 234 (s.pair_is i).second (first_is i).sharpen_fixed core.last_half_lag (first_is i).gains)

  behind_is : behind ≡ Spec.behind words bytes core lsp p
  unfolding Spec.behind
  behind_is = s.behind_is ∙ (λ i. Spec.excited_by words (between_is i) 234 (second_is i).trace)

  -- what the synthesis filter gave
  module _ {y : List ℤ} (y_is : y ≡ Spec.synthesised a.trace b.trace core.memory) where
    synthesis_is : y ≡ Spec.synthesis words bytes core lsp p
    unfolding Spec.synthesis
    synthesis_is = y_is ∙ (λ i. Spec.synthesised (first_is i).trace (second_is i).trace core.memory)

    pub samples_are : {z : List ℤ} → z ≡ Postfilter.outputs words core.filter y → z ≡ Spec.samples words bytes core lsp p
    unfolding Spec.samples
    samples_are e = e ∙ (λ i. Postfilter.outputs words core.filter (synthesis_is i))

    -- what either filter left, and what was clipped on the way
    left_is : {l : Synthesised} → l ≡ Spec.synthesis_left a.trace b.trace core.memory → l ≡ Spec.synthesis_left (Spec.first words bytes core lsp p).trace (Spec.second words bytes core lsp p).trace core.memory
    left_is e = e ∙ (λ i. Spec.synthesis_left (first_is i).trace (second_is i).trace core.memory)

    run_is : {f : Filtered} → f ≡ Spec.filter_left words core.filter y → f ≡ Spec.filter_left words core.filter (Spec.synthesis words bytes core lsp p)
    run_is e = e ∙ (λ i. Spec.filter_left words core.filter (synthesis_is i))

    first_counts : {n : Counts} → n ≡ Spec.counts_by words s.room 154 a.trace → n ≡ Spec.counts_by words (Spec.room core.excitation) 154 (Spec.first words bytes core lsp p).trace
    first_counts e = e ∙ (λ i. Spec.counts_by words (s.room_is i) 154 (first_is i).trace)

    second_counts : {n : Counts} → n ≡ Spec.counts_by words s.between 234 b.trace → n ≡ Spec.counts_by words (Spec.between words bytes core lsp p) 234 (Spec.second words bytes core lsp p).trace
    second_counts e = e ∙ (λ i. Spec.counts_by words (between_is i) 234 (second_is i).trace)

    module _ {k : List ℤ} {g l : ℤ} {m : Synthesised} {f : Filtered} {v w : Counts} (k_is : k ≡ Spec.kept behind) (m_is : m ≡ Spec.synthesis_left a.trace b.trace core.memory) (g_is : g ≡ b.sharpen_fixed) (l-is : l ≡ b.trace.lag.integer) (f_is : f ≡ Spec.filter_left words core.filter y) (v_is : v ≡ Spec.counts_by words s.room 154 a.trace) (w-is : w ≡ Spec.counts_by words s.between 234 b.trace) where
      pub half_is : ◌≡◌ {A = Half} (record {
        core = record { lsp = lsp; excitation = k; memory = m.memory; sharpen_fixed = g; last_half_lag = l; filter = f.filter; gains = b.gains };
        first = a.trace;
        second = b.trace;
        first_clipped = record { prediction = v.prediction; mixing = v.mixing; synthesis = m.first; output = f.first };
        second_clipped = record { prediction = w.prediction; mixing = w.mixing; synthesis = m.second; output = f.second };
      }) (Spec.half words bytes core lsp p)
      unfolding Spec.half Spec.clipped_first Spec.clipped_second Spec.synthesis_left Spec.filter_left
      half_is = λ i. record {
        core = record {
          lsp = lsp;
          excitation = (k_is ∙ (λ j. Spec.kept (behind_is j))) i;
          memory = (left_is m_is i).memory;
          sharpen_fixed = (g_is ∙ (λ j. (second_is j).sharpen_fixed)) i;
          last_half_lag = (l-is ∙ (λ j. (second_is j).trace.lag.integer)) i;
          filter = (run_is f_is i).filter;
          gains = (second_is i).gains;
        };
        first = (first_is i).trace;
        second = (second_is i).trace;
        first_clipped = record { prediction = (first_counts v_is i).prediction; mixing = (first_counts v_is i).mixing; synthesis = (left_is m_is i).first; output = (run_is f_is i).first };
        second_clipped = record { prediction = (second_counts w-is i).prediction; mixing = (second_counts w-is i).mixing; synthesis = (left_is m_is i).second; output = (run_is f_is i).second };
      }
