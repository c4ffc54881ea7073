-- core.rs with all that it keeps, step by step in its own order: 314 samples of excitation, `sharpen_voiced` and `previous_lag` beside what our `Core` has.
-- That nothing comes of the rest is proved in HalfSame. The gain history, which core.rs is lent, is ours to carry. core.rs counts no zero residuals: the trace has our count,
-- which is one of the LPC numbers alone.
use Rattle.std.specs.Prelude.{cond, ◌||◌, ◌&&◌, List, ◌++◌, ℕ, ◌+◌, ◌*◌, eqb, leb, ltb, ℤ, pos, get_or, take, drop, replicate, Float}
use Rattle.std.specs.Int.Signed.{lt_z}
use Rattle.fixed.specs.Fixed.{clamp}
use Rattle.bits.specs.declared.HalfParams.{HalfParams}
use Rattle.bits.specs.Bits as Bits
use Rattle.lsp.specs.declared.Pair.{Pair}
use Rattle.lsp.specs.Lsp as Lsp
use Rattle.reflection.specs.Reflection as Levinson
use Rattle.pitch.specs.declared.Lag.{Lag}
use Rattle.pitch.specs.Pitch as Pitch
use Rattle.pitch.specs.Buffered.{sharpen_buffered}
use Rattle.code_index.specs.declared.Innovation.{Innovation}
use Rattle.code_index.specs.Codebook as Codebook
use Rattle.excitation.specs.declared.InterpolationGains.{InterpolationGains}
use Rattle.excitation.specs.Excitation as Excitation
use Rattle.gain.specs.declared.Decoded.{Decoded}
use Rattle.gain.specs.Gain as Gain
use Rattle.synth.specs.Synth as Synth
use Rattle.output_filter.specs.declared.OutputFilter.{OutputFilter}
use Rattle.output_filter.specs.Postfilter as Postfilter
use Rattle.half.specs.declared.Core.{Core}
use Rattle.half.specs.declared.SubframeTrace.{SubframeTrace}
use Rattle.half.specs.Core as Spec

-- the struct `Core` of core.rs
pub record Full : Type 0 where
  pub previous_lsp : List ℤ
  pub excitation : List ℤ
  pub synthesis_memory : List ℤ
  pub sharpen_fixed : ℤ
  pub sharpen_voiced : ℤ
  pub last_half_lag : ℤ
  pub previous_lag : ℤ
  pub output_filter : OutputFilter

-- what a subframe leaves: the core and the gain history, its 80 samples of `out`, and its trace
pub record Stepped : Type 0 where
  pub core : Full
  pub gains : List Float
  pub out : List ℤ
  pub trace : SubframeTrace

-- from `gain.decode` on, by the excitation with the prediction in it, the second gain of sharpening and the innovation as it is by then
unfoldable pub finished : List ℕ → HalfParams → ℕ → Full → List Float → List ℤ → Lag → ℕ → List ℤ → ℤ → ℕ → List ℤ → Stepped
finished bytes p sub core gains lpc lag start predicted voiced class code =
    let g : Decoded = Gain.decode bytes gains (Bits.gain_index_of p sub) code in
    let exc : List ℤ = Spec.mix g.pitch_gain g.code_gain code start predicted in
    let here : List ℤ = take 80 (drop start exc) in
    record {
      core = record {
        previous_lsp = core.previous_lsp;
        excitation = exc;
        synthesis_memory = Synth.memory lpc core.synthesis_memory here;
        sharpen_fixed = clamp (pos 3277) (pos 13017) g.pitch_gain;
        sharpen_voiced = voiced;
        last_half_lag = core.last_half_lag;
        previous_lag = lag.integer;
        output_filter = core.output_filter;
      };
      gains = g.gains;
      out = Synth.synthesis lpc core.synthesis_memory here;
      trace = record {
        lag = lag;
        code_class = class;
        gain_index = Bits.gain_index_of p sub;
        pitch_gain = g.pitch_gain;
        code_gain = g.code_gain;
        gains = gains;
        lpc = lpc;
        innovation = code;
        mixed_excitation = here;
        zero_residuals = Levinson.zero_residuals_of lpc;
      };
    }

-- subframe sub, 0 or 1. The second lag is relative to what `previous_lag` holds by then; classes 5 and 1 to 2 take what `sharpen_voiced` holds by then
unfoldable pub subframe : List ℤ → List ℕ → HalfParams → Pair → ℕ → Full → List Float → Stepped
subframe words bytes p lpcs sub core gains =
    let lpc : List ℤ = cond (eqb sub 0) lpcs.first lpcs.second in
    let lag : Lag = cond (eqb sub 0) (Pitch.decode_absolute p.absolute_pitch) (Pitch.decode_relative p.relative_pitch core.previous_lag) in
    let start : ℕ = 154 + 80 * sub in
    let predicted : List ℤ = Pitch.predict (Pitch.interp words) core.excitation start lag in
    let reflection : List ℤ = Levinson.reflection_coefficients lpc in
    let sharpen : InterpolationGains = Excitation.interpolation_gains (get_or reflection 0 (pos 0)) core.sharpen_fixed lag.integer core.last_half_lag in
    let innovation : Innovation = Codebook.decode words (cond (eqb sub 0) p.code0 p.code1) in
    let class : ℕ = innovation.class in
    let g : ℤ = cond (eqb class 5 || (leb 1 class && ltb class 3)) sharpen.voiced sharpen.fixed in
    let code : List ℤ = cond (lt_z lag.integer (pos 80)) (sharpen_buffered (Pitch.interp words) innovation.code lag g) innovation.code in
    finished bytes p sub core gains lpc lag start predicted sharpen.voiced class code

-- what a half leaves: the core and the gain history, its 160 samples, and both traces
pub record Decoded160 : Type 0 where
  pub core : Full
  pub gains : List Float
  pub out : List ℤ
  pub first : SubframeTrace
  pub second : SubframeTrace

-- `excitation.copy_within(160.., 0)`: the last 154 samples come to the front, and the 160 behind them stay
unfoldable pub moved : List ℤ → List ℤ
moved exc = drop 160 exc ++ drop 154 exc

-- the LSPs are replaced before the first subframe
unfoldable pub replaced : Full → List ℤ → Full
replaced core lsp = record {
  previous_lsp = lsp;
  excitation = core.excitation;
  synthesis_memory = core.synthesis_memory;
  sharpen_fixed = core.sharpen_fixed;
  sharpen_voiced = core.sharpen_voiced;
  last_half_lag = core.last_half_lag;
  previous_lag = core.previous_lag;
  output_filter = core.output_filter;
}

-- after both: the excitation moved, the last lag kept, and the output filter run over the 160 samples
unfoldable pub ended : List ℤ → Full → List ℤ → Full
ended words core out = record {
  previous_lsp = core.previous_lsp;
  excitation = moved core.excitation;
  synthesis_memory = core.synthesis_memory;
  sharpen_fixed = core.sharpen_fixed;
  sharpen_voiced = core.sharpen_voiced;
  last_half_lag = core.previous_lag;
  previous_lag = core.previous_lag;
  output_filter = Postfilter.after words core.output_filter out;
}

-- what comes after both subframes
unfoldable pub joined : List ℤ → Stepped → Stepped → Decoded160
joined words a b =
    let out : List ℤ = a.out ++ b.out in
    record { core = ended words b.core out; gains = b.gains; out = Postfilter.outputs words b.core.output_filter out; first = a.trace; second = b.trace }

-- `decode`
unfoldable pub decode : List ℤ → List ℕ → Full → List ℤ → HalfParams → List Float → Decoded160
decode words bytes core lsp p gains =
    let lpcs : Pair = Lsp.interpolate_pair core.previous_lsp lsp in
    let a : Stepped = subframe words bytes p lpcs 0 (replaced core lsp) gains in
    let b : Stepped = subframe words bytes p lpcs 1 a.core a.gains in
    joined words a b

-- `new`, by the ten words of LSP_MEAN
unfoldable pub new : List ℤ → Full
new lsp_mean = record {
  previous_lsp = lsp_mean;
  excitation = replicate 314 (pos 0);
  synthesis_memory = replicate 10 (pos 0);
  sharpen_fixed = pos 3277;
  sharpen_voiced = pos 3277;
  last_half_lag = pos 60;
  previous_lag = pos 60;
  output_filter = record { fir = replicate 6 (pos 0); iir = replicate 6 (pos 0) };
}

-- ---- what our state has of it: the first 154 samples, and neither `sharpen_voiced` nor `previous_lag`
unfoldable pub restricted : Full → List Float → Core
restricted core gains = record {
  lsp = core.previous_lsp;
  excitation = take 154 core.excitation;
  memory = core.synthesis_memory;
  sharpen_fixed = core.sharpen_fixed;
  last_half_lag = core.last_half_lag;
  filter = core.output_filter;
  gains = gains;
}

-- and what is filled up with anything in the other places
unfoldable pub filled : Core → List ℤ → ℤ → ℤ → Full
filled core stale voiced lag = record {
  previous_lsp = core.lsp;
  excitation = core.excitation ++ stale;
  synthesis_memory = core.memory;
  sharpen_fixed = core.sharpen_fixed;
  sharpen_voiced = voiced;
  last_half_lag = core.last_half_lag;
  previous_lag = lag;
  output_filter = core.filter;
}
