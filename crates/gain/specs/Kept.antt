-- Over the bytes of an accepted set: a history that obeys the state rule is followed by one that does, the one at reset does, and no figure is a NaN.
use Rattle.std.specs.Prelude.{refl, List, false, not, ℤ, get_or, Float}
use Prim.Native.Nat.{ℕ, zero, suc, ◌*◌, ◌<◌, ◌≤◌}
use Rattle.std.proofs.Common.{le_refl, zero-lt-suc, arith}
use Rattle.std.proofs.Math.Dec.{T, lit≤}
use Rattle.std.specs.Float.{nan, inf, fin}
use Rattle.std.specs.Float.Ieee.{binary32, up, down, unlike, of_bits, of_int, is_nan}
use Rattle.std.specs.Float.Ieee as Ieee
use Rattle.std.specs.Float.Ieee.Scale.{finite}
use Rattle.sequence.specs.Total.{total}
use Rattle.floats.specs.Floats.{within}
use Rattle.floats.specs.Within.{Within, within→, →within, wider, held, held_scaled, add_within, div_within}
use Rattle.floats.specs.NoNan.{round_no_nan}
use Rattle.tables.specs.Tables.{pitch_gain_of, log_gain, gain_bias}
use Rattle.tables.specs.Sound.{SoundBytes, log_gain_within, gain_bias_within}
use Rattle.elementary.specs.Elementary.{bits, add, div}
use Rattle.gain.specs.Gain.{energy, squares, prediction, decode, amplitude, mean, initial_history}
use Rattle.gain.specs.Ranges.{Bounded, step_bounded, sorted_finite, amplitude_finite}

module _ {bytes : List ℕ} (s : SoundBytes bytes) where
  module _ (v : List Float) (b : Bounded v) (index : ℕ) (i : index < 128) where
    pub decode_bounded : (code : List ℤ) → Bounded (decode bytes v index code).gains
    unfolding decode
    decode_bounded code = step_bounded v b (energy code) (pitch_gain_of bytes index) (log_gain bytes index) (gain_bias bytes) (log_gain_within s index i)

    pub decode_finite : (code : List ℤ) → T (finite (add (prediction v (energy code) (gain_bias bytes)) (log_gain bytes index)))
    decode_finite code = sorted_finite v b (energy code) (gain_bias bytes) (log_gain bytes index) (gain_bias_within s) (log_gain_within s index i)

    pub amplitude_figure_finite : T (finite (amplitude bytes v index))
    unfolding amplitude
    amplitude_figure_finite = amplitude_finite v b (gain_bias bytes) (log_gain bytes index) (gain_bias_within s) (log_gain_within s index i)

  -- after n log gains the sum is within n * 65,536
  sum_within : (n : ℕ) → n ≤ 128 → Within (n * 65536) (total add (bits 0) (log_gain bytes) n)
  unfolding total of_bits
  sum_within zero h = lit≤ tt
  sum_within (suc n) h =
      add_within binary32 (total add (bits 0) (log_gain bytes) n) (log_gain bytes n) (n * 65536) 65536 (suc n * 65536) (held_scaled (suc n) (omega arith)) (omega arith)
      (sum_within n (omega arith)) (within→ 65536 (log_gain bytes n) (log_gain_within s n (omega arith)))

  pub mean_within : Within 65536 (mean bytes)
  unfolding mean
  mean_within =
      div_within binary32 (total add (bits 0) (log_gain bytes) 128) (bits 0x4300_0000) 128 65536 (held 65536 (lit≤ tt)) (zero-lt-suc 127) (unfold of_bits in (refl, refl))
      (sum_within 128 (le_refl 128))

  pub initial_bounded : Bounded (initial_history bytes)
  unfolding initial_history
  initial_bounded k h = go k h (→within 131072 (mean bytes) (wider 65536 131072 (mean bytes) (lit≤ tt) mean_within))
    where
      go : (k : ℕ) → k < 4 → T (within 131072 (mean bytes)) → T (within 131072 (get_or (initial_history bytes) k nan))
      go zero h t = t
      go (suc zero) h t = t
      go (suc (suc zero)) h t = t
      go (suc (suc (suc zero))) h t = t
      go (suc (suc (suc (suc k)))) h t = absurd (omega arith)

-- the energy is no NaN, of any code
pub energy_number : (code : List ℤ) → T (not (is_nan (energy code)))
unfolding energy of_int of_bits is_nan Ieee.div
energy_number code = go (Ieee.round binary32 false (squares code) 1) (round_no_nan binary32 false (squares code) 1)
  where
    go : (x : Float) → T (not (is_nan x)) → T (not (is_nan (div x (bits 0x42a0_0000))))
    go nan h = absurd h
    go (inf t) h = tt
    go (fin t m e) h = round_no_nan binary32 (unlike t false) (m * up e * 1) (5 * 16 * down e)
