-- Each of the four counts of a subframe is at most 80, whatever the half starts from.
use Rattle.std.proofs.Common.{arith, le_trans, length-take}
use Rattle.std.specs.Prelude.{List, ℕ, ◌≤◌, ℤ, length, drop}
use Rattle.sequence.specs.Count.{count_le}
use Rattle.bits.specs.declared.HalfParams.{HalfParams}
use Rattle.pitch.specs.declared.Lag.{Lag}
use Rattle.pitch.specs.Pitch as Pitch
use Rattle.synth.specs.Synth as Synth
use Rattle.output_filter.specs.declared.OutputFilter.{OutputFilter}
use Rattle.output_filter.specs.Postfilter as Postfilter
use Rattle.half.specs.declared.Clipped.{Clipped}
use Rattle.half.specs.declared.Core.{Core}
use Rattle.half.specs.Core as Spec

pub record Within (c : Clipped) : Type 0 where
  pub prediction_le : c.prediction ≤ 80
  pub mixing_le : c.mixing ≤ 80
  pub synthesis_le : c.synthesis ≤ 80
  pub output_le : c.output ≤ 80

-- ---- each kind
eighty : (l : List ℤ) (start : ℕ) → length (Spec.part l start) ≤ 80
unfolding Spec.part
eighty l start = omega (arith, length-take 80 (drop start l))

predicted_le : (taps exc : List ℤ) (start : ℕ) (lag : Lag) → Pitch.clipped taps exc start lag ≤ 80
unfolding Pitch.clipped
predicted_le taps exc start lag = count_le _ 80

mixed_le : (pitch_gain_of code_gain_of : ℤ) (innovation : List ℤ) (start : ℕ) (exc : List ℤ) → Spec.mix_clipped pitch_gain_of code_gain_of innovation start exc ≤ 80
unfolding Spec.mix_clipped
mixed_le pitch_gain_of code_gain_of innovation start exc = count_le _ 80

synthesised_le : (a m l : List ℤ) (start : ℕ) → Synth.clipped a m (Spec.part l start) ≤ 80
unfolding Synth.clipped
synthesised_le a m l start = le_trans (count_le _ (length (Spec.part l start))) (eighty l start)

filtered_le : (words : List ℤ) (filter : OutputFilter) (l : List ℤ) (start : ℕ) → Postfilter.clipped words filter (Spec.part l start) ≤ 80
unfolding Postfilter.clipped
filtered_le words filter l start = le_trans (count_le _ (length (Spec.part l start))) (eighty l start)

-- ---- both subframes
module _ (words : List ℤ) (bytes : List ℕ) (core : Core) (lsp : List ℤ) (p : HalfParams) where
  pub first_within : Within (Spec.half words bytes core lsp p).first_clipped
  unfolding Spec.half Spec.clipped_first Spec.counts Spec.synthesis_left Spec.filter_left Spec.first Spec.decode_subframe Spec.traced
  first_within = record { prediction_le = predicted_le _ _ _ _; mixing_le = mixed_le _ _ _ _ _; synthesis_le = synthesised_le _ _ _ _; output_le = filtered_le _ _ _ _ }

  pub second_within : Within (Spec.half words bytes core lsp p).second_clipped
  unfolding Spec.half Spec.clipped_second Spec.counts Spec.synthesis_left Spec.filter_left Spec.second Spec.decode_subframe Spec.traced
  second_within = record { prediction_le = predicted_le _ _ _ _; mixing_le = mixed_le _ _ _ _ _; synthesis_le = synthesised_le _ _ _ _; output_le = filtered_le _ _ _ _ }
