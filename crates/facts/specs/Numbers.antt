-- Every float of an answer is a number: after any sequence of calls no NaN stands in the twelve figures of a subframe, nor in the state. So what is promised of them settles their bits.
use Prim.Native.Nat.{ℕ, zero, suc, ◌<◌}
use Rattle.std.specs.Prelude.{◌≡◌, Bool, false, not, List, [], ℤ, pos, negsuc, get_or, Float}
use Rattle.std.proofs.Math.Path.{refl}
use Rattle.std.proofs.Common.{sym, subst, lit<}
use Rattle.std.proofs.Math.Bool.{true}
use Rattle.std.proofs.Math.Dec.{T}
use Rattle.std.specs.Float.{nan, binary32}
use Rattle.std.specs.Float.Ieee.{of_bits, of_int, is_nan}
use Rattle.std.specs.Float.Ieee.Bits.{is_true}
use Rattle.sequence.specs.All.{all, all_at, all_of}
use Rattle.sequence.specs.Lists.{Each, each_all}
use Rattle.floats.specs.Floats.{within}
use Rattle.floats.specs.Within.{within_is_number}
use Rattle.floats.specs.NoNan.{round_no_nan, finite_no_nan}
use Rattle.tables.specs.Tables.{log_gain}
use Rattle.tables.specs.Sound.{SoundBytes, log_gain_within}
use Rattle.bits.specs.declared.HalfParams.{HalfParams}
use Rattle.bits.specs.declared.FrameParams.{FrameParams}
use Rattle.bits.specs.Bits.{fields_of, gain_index_of}
use Rattle.bits.specs.GainIndex.{gain_index_lt}
use Rattle.gain.specs.Gain as Gain
use Rattle.gain.specs.Ranges.{Bounded}
use Rattle.gain.specs.Kept.{decode_bounded, amplitude_figure_finite, energy_number}
use Rattle.half.specs.declared.Core.{Core}
use Rattle.half.specs.declared.SubframeTrace.{SubframeTrace}
use Rattle.half.specs.Core as HalfFrame
use Rattle.half.specs.Figures.{histories, pushed}
use Rattle.half.specs.Kept.{indexes_kept, gains_kept}
use Rattle.observation.specs.declared.Subframe.{Subframe}
use Rattle.observation.specs.Frame as Frame
use Rattle.spectral.specs.Kept.{Words16}
use Rattle.state.specs.declared.State.{State}
use Rattle.calls.specs.declared.Answer.{Answer}
use Rattle.calls.specs.Celp.{refusal, silent, refused, carried, decoded, accepted, answer, decode}
use Rattle.calls.specs.Run.{Event, run}
use Rattle.calls.specs.Accepted.{accepted_means}
use Rattle.calls.specs.StateRule.{Obeying, floats_within, kept}
use Rattle.calls.proofs.StateRule.{decode_obeying, run_obeying}

-- a float that is no NaN
abbrev pub number : Float → Bool
number x = not (is_nan x)

-- each of a subframe's twelve figures is one
abbrev pub numbers : Subframe → Bool
numbers b = all number b.figures

int_number : (z : ℤ) → T (number (of_int binary32 z))
unfolding of_int
int_number (pos n) = round_no_nan binary32 false n 1
int_number (negsuc n) = round_no_nan binary32 true (suc n) 1

module _ (words : List ℤ) (bytes : List ℕ) (s : SoundBytes bytes) where
  -- a subframe's figures, by its gain index and its history
  each_number : (t : SubframeTrace) → t.gain_index < 128 → Bounded t.gains → Each number (Frame.figures bytes t)
  unfolding Frame.figures
  each_number t i b =
      let past : (k : ℕ) → k < 4 → T (number (get_or t.gains k nan)) = λ k h. within_is_number 131072 (get_or t.gains k nan) (b k h) in
      let amplitude = finite_no_nan (Gain.amplitude bytes t.gains t.gain_index) (amplitude_figure_finite s t.gains b t.gain_index i) in
      let correction = within_is_number 65536 (log_gain bytes t.gain_index) (log_gain_within s t.gain_index i) in (
        int_number (pos t.gain_index),
        (
          correction,
          (
            past 0 (lit< tt),
            (
              past 1 (lit< tt),
              (
                past 2 (lit< tt),
                (
                  past 3 (lit< tt),
                  (
                    amplitude,
                    (
                      energy_number t.innovation,
                      (int_number t.code_gain, (int_number t.pitch_gain, (int_number t.lag.integer, (int_number (pos t.code_class), tt)))),
                    ),
                  ),
                ),
              ),
            ),
          ),
        ),
      )

  reported_numbers : (t : SubframeTrace) → t.gain_index < 128 → Bounded t.gains → numbers (Frame.reported bytes t) ≡ true
  unfolding Frame.reported
  reported_numbers t i b = each_all number (Frame.figures bytes t) (each_number t i b)

  -- those of both subframes of a half
  module _ (core : Core) (lsp : List ℤ) (p : HalfParams) (b : Bounded core.gains) where
    first_numbers : numbers (Frame.reported bytes (HalfFrame.half words bytes core lsp p).first) ≡ true
    first_numbers = reported_numbers _ (indexes_kept words bytes core lsp p).0 (rw (histories words bytes core lsp p).0 b)

    second_numbers : numbers (Frame.reported bytes (HalfFrame.half words bytes core lsp p).second) ≡ true
    unfolding Gain.decode Gain.step pushed
    second_numbers = reported_numbers _ (indexes_kept words bytes core lsp p).1 (rw (histories words bytes core lsp p).1 (decode_bounded s core.gains b (gain_index_of p 0) (gain_index_lt p 0) []))

  -- and of all four of a frame
  frame_numbers : (core : Core) (residuals : List Float) (f : FrameParams) → Bounded core.gains → all numbers (Frame.decode words bytes core residuals f).subframes ≡ true
  unfolding Frame.decode Frame.report Frame.halves Frame.half Frame.subframes
  frame_numbers core residuals f b =
      let x = Frame.half words bytes core residuals f.first in
      let l = Frame.lsp words bytes residuals f.first in
      let m = Frame.lsp words bytes x.residuals f.second in
      let c = gains_kept words bytes core l f.first s b in
      rw (first_numbers core l f.first b, second_numbers core l f.first b, first_numbers x.half.core m f.second c, second_numbers x.half.core m f.second c)

-- the floats of an answer are numbers
pub record Numbers (a : Answer) : Type 0 where
  pub figures : all numbers a.subframes ≡ true
  pub residuals : all number a.state.residuals ≡ true
  pub gains : all number a.state.gains ≡ true

within_numbers : (l : List Float) → all (within 131072) l ≡ true → all number l ≡ true
within_numbers l a = all_of number l nan (λ k h. is_true _ (within_is_number 131072 _ (subst T (sym (all_at (within 131072) l nan a k h)) tt)))

module _ (words : List ℤ) (bytes : List ℕ) where
  figures_numbers : (s : State) (payload : List ℕ) (room : ℕ) → Obeying s → all numbers (decode words bytes s payload room).subframes ≡ true
  unfolding decode answer accepted decoded carried refused silent of_bits is_nan
  figures_numbers s payload room o = by (refusal words bytes s payload room) refl
    where
      by : (n : ℕ) → refusal words bytes s payload room ≡ n → all numbers (answer n words bytes s payload).subframes ≡ true
      by zero z = frame_numbers words bytes (accepted_means words bytes s payload room z).set_sound.of_bytes (carried s) s.residuals (fields_of payload) (kept s o).gains_within
      by (suc n) z = refl

  -- after any sequence of calls, whatever the payload
  pub answer_numbers : Words16 words → (s : State) (es : List Event) → Obeying s → (payload : List ℕ) (room : ℕ) → Numbers (decode words bytes (run words bytes s es) payload room)
  answer_numbers w s es o payload room =
      let t = run words bytes s es in
      let p = run_obeying words bytes w s es o in
      let n = (decode words bytes t payload room).state in
      let q = floats_within n (decode_obeying words bytes w t payload room p).rule in
      record { figures = figures_numbers t payload room p; residuals = within_numbers n.residuals q.0; gains = within_numbers n.gains q.1 }
