-- core.rs: a half frame. Two subframes, each predicted from the excitation before it, with an innovation mixed in; then synthesis and the output filter.
use Rattle.std.specs.Prelude.{◌≡◌, refl, cond, ◌||◌, List, ◌++◌, ℕ, ◌+◌, eqb, ℤ, pos, negsuc, get_or, take, drop, replicate, Float}
use Rattle.std.specs.Int.Signed.{lt_z}
use Rattle.sequence.specs.Count.{count}
use Rattle.sequence.specs.Rewritten.{rewritten}
use Rattle.fixed.specs.Fixed.{residue, signed, wrap, clamp, fold, sat, clips, hi, mul, shift}
use Rattle.bits.specs.declared.HalfParams.{HalfParams}
use Rattle.bits.specs.Bits as Bits
use Rattle.lsp.specs.declared.Pair.{Pair}
use Rattle.lsp.specs.Lsp as Lsp
use Rattle.reflection.specs.Reflection as Levinson
use Rattle.pitch.specs.declared.Lag.{Lag}
use Rattle.pitch.specs.Pitch as Pitch
use Rattle.code_index.specs.declared.Innovation.{Innovation}
use Rattle.code_index.specs.Codebook as Codebook
use Rattle.excitation.specs.declared.InterpolationGains.{InterpolationGains}
use Rattle.excitation.specs.Excitation as Excitation
use Rattle.gain.specs.declared.Decoded.{Decoded}
use Rattle.gain.specs.Gain as Gain
use Rattle.synth.specs.Synth as Synth
use Rattle.output_filter.specs.declared.OutputFilter.{OutputFilter}
use Rattle.output_filter.specs.Postfilter as Postfilter
use Rattle.half.specs.declared.Clipped.{Clipped}
use Rattle.half.specs.declared.Core.{Core}
use Rattle.half.specs.declared.Counts.{Counts}
use Rattle.half.specs.declared.SubframeParams.{SubframeParams}
use Rattle.half.specs.declared.ParamsPair.{ParamsPair}
use Rattle.half.specs.declared.SubframeTrace.{SubframeTrace}
use Rattle.half.specs.declared.Subframe.{Subframe}
use Rattle.half.specs.declared.Half.{Half}
use Rattle.half.specs.declared.Filtered.{Filtered}
use Rattle.half.specs.declared.Synthesised.{Synthesised}

-- ---- the innovation
-- of the two gains of sharpening, classes 1, 2 and 5 take the second
unfoldable pub sharpen_gain : ℕ → InterpolationGains → ℤ
sharpen_gain class g = cond (eqb class 1 || eqb class 2 || eqb class 5) g.voiced g.fixed

-- of two gains, for an example
abbrev two : InterpolationGains
two = record { fixed = pos 1; voiced = pos 2 }

which_gain : (sharpen_gain 0 two ≡ pos 1) × (sharpen_gain 1 two ≡ pos 2) × (sharpen_gain 2 two ≡ pos 2) × (sharpen_gain 3 two ≡ pos 1) × (sharpen_gain 4 two ≡ pos 1) × (sharpen_gain 5 two ≡ pos 2)
unfolding sharpen_gain
which_gain = (refl, refl, refl, refl, refl, refl)

-- an innovation, sharpened where the lag's integer is below 80
unfoldable pub shaped : List ℤ → Innovation → Lag → InterpolationGains → Innovation
shaped words i lag g = record {
  code = cond (lt_z lag.integer (pos 80)) (Pitch.sharpen (Pitch.interp words) i.code lag (sharpen_gain i.class g)) i.code;
  class = i.class;
}

at_80 : (words : List ℤ) (i : Innovation) (frac : ℤ) (g : InterpolationGains) → shaped words i (record { integer = pos 80; frac = frac }) g ≡ i
unfolding shaped
at_80 words i frac g = refl

-- the two gains of a subframe, by its first reflection coefficient, the gain that the subframe before it left, and the last lag of the half before
unfoldable pub sharpen_gains : List ℤ → Lag → ℤ → ℤ → InterpolationGains
sharpen_gains lpc lag sharpenFixed lastHalfLag = Excitation.interpolation_gains (get_or (Levinson.reflection_coefficients lpc) 0 (pos 0)) sharpenFixed lag.integer lastHalfLag

-- the innovation of a subframe
unfoldable pub innovation : List ℤ → SubframeParams → ℤ → ℤ → Innovation
innovation words p sharpenFixed lastHalfLag = shaped words (Codebook.decode words p.index) p.lag (sharpen_gains p.lpc p.lag sharpenFixed lastHalfLag)

-- ---- the excitation
-- a sample: the predicted one by the pitch gain, and twice the innovation's by the code gain; doubled, rounded and saturated
unfoldable pub mixed : ℤ → ℤ → ℤ → ℤ → ℤ
mixed pitch_gain_of code_gain_of a c = hi (sat (fold (shift (fold (mul a pitch_gain_of) (shift (mul c code_gain_of) (pos 1))) (pos 1)) (pos 32768)))

-- a pitch gain of 16384 takes over the predicted sample, a code gain of 8192 the innovation's; a sum that is too large is saturated
passed : (mixed (pos 16384) (pos 0) (pos 1000) (pos 7) ≡ pos 1000) × (mixed (pos 0) (pos 8192) (pos 7) (negsuc 999) ≡ negsuc 999) × (mixed (pos 32767) (pos 32767) (pos 32767) (pos 32767) ≡ pos 32767)
unfolding mixed fold clamp mul shift wrap signed residue
passed = (refl, refl, refl)

-- sample n from place start on, and the 80 of them, each mixed with the innovation's
abbrev pub mixed_at : ℤ → ℤ → List ℤ → ℕ → ℕ → List ℤ → ℤ
mixed_at pitch_gain_of code_gain_of innovation start n exc = mixed pitch_gain_of code_gain_of (get_or exc (start + n) (pos 0)) (get_or innovation n (pos 0))

unfoldable pub mix : ℤ → ℤ → List ℤ → ℕ → List ℤ → List ℤ
mix pitch_gain_of code_gain_of innovation start exc = rewritten (mixed_at pitch_gain_of code_gain_of innovation start) start exc 80

-- first predicted by the lag
unfoldable pub excited : List ℤ → List ℤ → ℕ → Lag → ℤ → ℤ → List ℤ → List ℤ
excited words exc start lag pitch_gain_of code_gain_of innovation = mix pitch_gain_of code_gain_of innovation start (Pitch.predict (Pitch.interp words) exc start lag)

-- by a subframe's trace
abbrev pub excited_by : List ℤ → List ℤ → ℕ → SubframeTrace → List ℤ
excited_by words exc start t = excited words exc start t.lag t.pitch_gain t.code_gain t.innovation

-- what is saturated for a mixed sample, and at how many of the 80 that changes it, each by the predicted sample at its place
unfoldable pub mixed_sum : ℤ → ℤ → ℤ → ℤ → ℤ
mixed_sum pitch_gain_of code_gain_of a c = fold (shift (fold (mul a pitch_gain_of) (shift (mul c code_gain_of) (pos 1))) (pos 1)) (pos 32768)

pub mixed_sum_lem : (pitch_gain_of code_gain_of a c : ℤ) → mixed pitch_gain_of code_gain_of a c ≡ hi (sat (mixed_sum pitch_gain_of code_gain_of a c))
unfolding mixed mixed_sum
mixed_sum_lem pitch_gain_of code_gain_of a c = refl

unfoldable pub mix_clipped : ℤ → ℤ → List ℤ → ℕ → List ℤ → ℕ
mix_clipped pitch_gain_of code_gain_of innovation start exc = count (λ n. clips (mixed_sum pitch_gain_of code_gain_of (get_or exc (start + n) (pos 0)) (get_or innovation n (pos 0)))) 80

-- how many are clipped in prediction and in mixing; and by a subframe's trace
unfoldable pub counts : List ℤ → List ℤ → ℕ → Lag → ℤ → ℤ → List ℤ → Counts
counts words exc start lag pitch_gain_of code_gain_of innovation = record {
  prediction = Pitch.clipped (Pitch.interp words) exc start lag;
  mixing = mix_clipped pitch_gain_of code_gain_of innovation start (Pitch.predict (Pitch.interp words) exc start lag);
}

abbrev pub counts_by : List ℤ → List ℤ → ℕ → SubframeTrace → Counts
counts_by words exc start t = counts words exc start t.lag t.pitch_gain t.code_gain t.innovation

-- the 80 samples from a place on
unfoldable pub part : List ℤ → ℕ → List ℤ
part exc start = take 80 (drop start exc)

-- ---- a subframe
-- the gain that it leaves: its pitch gain, within 3277 to 13017
unfoldable pub clamped : ℤ → ℤ
clamped pitch_gain_of = clamp (pos 3277) (pos 13017) pitch_gain_of

ends : (clamped (pos 0) ≡ pos 3277) × (clamped (pos 5000) ≡ pos 5000) × (clamped (pos 32767) ≡ pos 13017)
unfolding clamped clamp
ends = (refl, refl, refl)

-- by the innovation and the gains that it has: its trace, and what the next subframe starts from
unfoldable pub traced : SubframeParams → List Float → Innovation → Decoded → List ℤ → Subframe
traced p gains i g samples = record {
  trace = record {
    lag = p.lag;
    code_class = i.class;
    gain_index = p.gain_index;
    pitch_gain = g.pitch_gain;
    code_gain = g.code_gain;
    gains = gains;
    lpc = p.lpc;
    innovation = i.code;
    mixed_excitation = samples;
    zero_residuals = Levinson.zero_residuals_of p.lpc;
  };
  sharpen_fixed = clamped g.pitch_gain;
  gains = g.gains;
}

-- a subframe whose excitation is the 80 samples from place start on, by what the subframe before it left
unfoldable pub decode_subframe : List ℤ → List ℕ → List ℤ → ℕ → SubframeParams → ℤ → ℤ → List Float → Subframe
decode_subframe words bytes exc start p sharpenFixed lastHalfLag gains =
    let i : Innovation = innovation words p sharpenFixed lastHalfLag in
    let g : Decoded = Gain.decode bytes gains p.gain_index i.code in
    traced p gains i g (part (excited words exc start p.lag g.pitch_gain g.code_gain i.code) start)

-- ---- a half
-- what its fields and the spectrum settle of its subframes: the first lag is absolute, the second relative to the first's integer
unfoldable pub split_params : List ℤ → List ℤ → HalfParams → ParamsPair
split_params previous lsp p =
    let lpc : Pair = Lsp.interpolate_pair previous lsp in
    let lag : Lag = Pitch.decode_absolute p.absolute_pitch in
    record {
      first = record { lpc = lpc.first; lag = lag; index = p.code0; gain_index = Bits.gain_index_of p 0 };
      second = record { lpc = lpc.second; lag = Pitch.decode_relative p.relative_pitch lag.integer; index = p.code1; gain_index = Bits.gain_index_of p 1 };
    }

-- room for its excitation: the 154 samples that are kept, and 160 that are written before they are read
unfoldable pub room : List ℤ → List ℤ
room past = past ++ replicate 160 (pos 0)

-- the 154 samples that the next half reads
unfoldable pub kept : List ℤ → List ℤ
kept exc = drop 160 exc

-- the outputs of both subframes by the synthesis filter, which carries its memory on, and the memory after them
unfoldable pub synthesised : SubframeTrace → SubframeTrace → List ℤ → List ℤ
synthesised first second memory =
    Synth.synthesis first.lpc memory first.mixed_excitation
    ++ Synth.synthesis second.lpc (Synth.memory first.lpc memory first.mixed_excitation) second.mixed_excitation

unfoldable pub memory_after : SubframeTrace → SubframeTrace → List ℤ → List ℤ
memory_after first second memory = Synth.memory second.lpc (Synth.memory first.lpc memory first.mixed_excitation) second.mixed_excitation

-- with how many outputs of each are clipped; and the same of the output filter, of 160 samples
unfoldable pub synthesis_left : SubframeTrace → SubframeTrace → List ℤ → Synthesised
synthesis_left first second memory = record {
  memory = memory_after first second memory;
  first = Synth.clipped first.lpc memory first.mixed_excitation;
  second = Synth.clipped second.lpc (Synth.memory first.lpc memory first.mixed_excitation) second.mixed_excitation;
}

unfoldable pub filter_left : List ℤ → OutputFilter → List ℤ → Filtered
filter_left words filter block = record {
  filter = Postfilter.after words filter block;
  first = Postfilter.clipped words filter (part block 0);
  second = Postfilter.clipped words (Postfilter.after words filter (part block 0)) (part block 80);
}

-- of a core, the LSPs of the present half, and its fields
module _ (words : List ℤ) (bytes : List ℕ) (core : Core) (lsp : List ℤ) (p : HalfParams) where
  unfoldable pub params : ParamsPair
  params = split_params core.lsp lsp p

  -- the first subframe, from place 154 on, and the excitation with it
  unfoldable pub first : Subframe
  first = decode_subframe words bytes (room core.excitation) 154 params.first core.sharpen_fixed core.last_half_lag core.gains

  unfoldable pub between : List ℤ
  between = excited_by words (room core.excitation) 154 first.trace

  -- the second, from place 234 on; the last lag of the half before is the same as for the first subframe
  unfoldable pub second : Subframe
  second = decode_subframe words bytes between 234 params.second first.sharpen_fixed core.last_half_lag first.gains

  unfoldable pub behind : List ℤ
  behind = excited_by words between 234 second.trace

  unfoldable pub synthesis : List ℤ
  synthesis = synthesised first.trace second.trace core.memory

  -- the 160 samples
  unfoldable pub samples : List ℤ
  samples = Postfilter.outputs words core.filter synthesis

  -- what is clipped in each subframe; an output sample belongs to the subframe of its own place
  unfoldable pub clipped_first : Clipped
  clipped_first = record {
    prediction = (counts_by words (room core.excitation) 154 first.trace).prediction;
    mixing = (counts_by words (room core.excitation) 154 first.trace).mixing;
    synthesis = (synthesis_left first.trace second.trace core.memory).first;
    output = (filter_left words core.filter synthesis).first;
  }

  unfoldable pub clipped_second : Clipped
  clipped_second = record {
    prediction = (counts_by words between 234 second.trace).prediction;
    mixing = (counts_by words between 234 second.trace).mixing;
    synthesis = (synthesis_left first.trace second.trace core.memory).second;
    output = (filter_left words core.filter synthesis).second;
  }

  -- and what the next half starts from, with both traces
  unfoldable pub half : Half
  half = record {
    core = record {
      lsp = lsp;
      excitation = kept behind;
      memory = memory_after first.trace second.trace core.memory;
      sharpen_fixed = second.sharpen_fixed;
      last_half_lag = second.trace.lag.integer;
      filter = Postfilter.after words core.filter synthesis;
      gains = second.gains;
    };
    first = first.trace;
    second = second.trace;
    first_clipped = clipped_first;
    second_clipped = clipped_second;
  }
