-- How long our lines are: no text of a line has more than 1,283 bytes, its newline, the last, among them. The synthesis memory has ten numbers from the start on, and
-- so each half frame has no more than 160 samples.
use Prim.Native.Nat.{ℕ, zero, suc, ◌+◌, ◌≤◌}
use Rattle.std.specs.Prelude.{◌≡◌, List, [], ◌∷◌, ◌++◌, Bool, cond, eqb, ltb, ℤ, Float, length, drop}
use Rattle.std.proofs.Math.Path.{refl}
use Rattle.std.proofs.Common.{◌∙◌, length-take, length-drop, ne_eqb}
use Rattle.std.proofs.Math.Bool.{true, false}
use native.Mathlib.Omega.{arith}
use Rattle.std.proofs.Math.ListN.{length-append}
use Rattle.stream.specs.Lines.{plain}
use Rattle.bits.specs.declared.HalfParams.{HalfParams}
use Rattle.bits.specs.declared.FrameParams.{FrameParams}
use Rattle.bits.specs.Bits.{fields_of}
use Rattle.synth.specs.Synth as Synth
use Rattle.output_filter.specs.Postfilter.{length_outputs}
use Rattle.half.specs.declared.Core.{Core}
use Rattle.half.specs.declared.SubframeTrace.{SubframeTrace}
use Rattle.half.specs.Core as HalfFrame
use Rattle.observation.specs.Frame as Frame
use Rattle.tables.specs.Tables.{check, unsigned}
use Rattle.state.specs.declared.State.{State}
use Rattle.state.specs.State as Start
use Rattle.calls.specs.Celp as Celp
use Rattle.calls.specs.Run.{Event, heard, missed, step}
use Rattle.hex_lines.specs.Text.{digit, four_digits, sample_text, frame_text, refused_text}
use Rattle.hex_lines.specs.Lengths.{text_long}
use Rattle.heard.specs.Recording.{event, blank, answer_text, text, line_step, line_text}

-- ---- the synthesis filter
window_long : (a m xs : List ℤ) (n : ℕ) → length (Synth.window a m xs n) ≡ length m + n
unfolding Synth.window
window_long a m xs zero = omega arith
window_long a m xs (suc n) = let h = window_long a m xs n in length-append (Synth.window a m xs n) (_ ∷ []) ∙ omega arith

memory_long : (a m xs : List ℤ) → length (Synth.memory a m xs) ≡ length m
unfolding Synth.memory
memory_long a m xs = let w = window_long a m xs (length xs) in let d = length-drop (length xs) (Synth.window a m xs (length xs)) in omega arith

synthesis_long : (a m xs : List ℤ) → length m ≡ 10 → length (Synth.synthesis a m xs) ≡ length xs
unfolding Synth.synthesis
synthesis_long a m xs h = let w = window_long a m xs (length xs) in let d = length-drop 10 (Synth.window a m xs (length xs)) in omega arith

-- ---- a half
eighty : (l : List ℤ) (start : ℕ) → length (HalfFrame.part l start) ≤ 80
unfolding HalfFrame.part
eighty l start = omega (arith, length-take 80 (drop start l))

both_long : (f s : SubframeTrace) (m : List ℤ) → length m ≡ 10 → length (HalfFrame.synthesised f s m) ≡ length f.mixed_excitation + length s.mixed_excitation
unfolding HalfFrame.synthesised
both_long f s m h =
    let l = length-append (Synth.synthesis f.lpc m f.mixed_excitation) (Synth.synthesis s.lpc (Synth.memory f.lpc m f.mixed_excitation) s.mixed_excitation) in
    let a = synthesis_long f.lpc m f.mixed_excitation h in
    let b = synthesis_long s.lpc (Synth.memory f.lpc m f.mixed_excitation) s.mixed_excitation (memory_long f.lpc m f.mixed_excitation ∙ h) in
    omega arith

after_long : (f s : SubframeTrace) (m : List ℤ) → length (HalfFrame.memory_after f s m) ≡ length m
unfolding HalfFrame.memory_after
after_long f s m = memory_long s.lpc (Synth.memory f.lpc m f.mixed_excitation) s.mixed_excitation ∙ memory_long f.lpc m f.mixed_excitation

module _ (words : List ℤ) (bytes : List ℕ) (core : Core) (lsp : List ℤ) (p : HalfParams) where
  first_short : length (HalfFrame.first words bytes core lsp p).trace.mixed_excitation ≤ 80
  unfolding HalfFrame.first HalfFrame.decode_subframe HalfFrame.traced
  first_short = eighty _ _

  second_short : length (HalfFrame.second words bytes core lsp p).trace.mixed_excitation ≤ 80
  unfolding HalfFrame.second HalfFrame.decode_subframe HalfFrame.traced
  second_short = eighty _ _

  half_short : length core.memory ≡ 10 → length (HalfFrame.samples words bytes core lsp p) ≤ 160
  unfolding HalfFrame.samples HalfFrame.synthesis
  half_short h =
      let o = length_outputs words core.filter (HalfFrame.synthesised (HalfFrame.first words bytes core lsp p).trace (HalfFrame.second words bytes core lsp p).trace core.memory) in
      let b = both_long (HalfFrame.first words bytes core lsp p).trace (HalfFrame.second words bytes core lsp p).trace core.memory h in
      let f = first_short in
      let s = second_short in
      omega arith

  half_memory : length (HalfFrame.half words bytes core lsp p).core.memory ≡ length core.memory
  unfolding HalfFrame.half
  half_memory = after_long _ _ core.memory

-- ---- a frame
module _ (words : List ℤ) (bytes : List ℕ) (core : Core) (residuals : List Float) where
  step_memory : (p : HalfParams) → length (Frame.half words bytes core residuals p).half.core.memory ≡ length core.memory
  unfolding Frame.half
  step_memory p = half_memory words bytes core _ p

  frame_short : (f : FrameParams) → length core.memory ≡ 10 → length (Frame.samples words bytes core residuals f) ≤ 320
  unfolding Frame.samples Frame.half_samples
  frame_short f h =
      let c = (Frame.half words bytes core residuals f.first).half.core in
      let r = (Frame.half words bytes core residuals f.first).residuals in
      let l = length-append (HalfFrame.samples words bytes core (Frame.lsp words bytes residuals f.first) f.first) (HalfFrame.samples words bytes c (Frame.lsp words bytes r f.second) f.second) in
      let a = half_short words bytes core (Frame.lsp words bytes residuals f.first) f.first h in
      let b = half_short words bytes c (Frame.lsp words bytes r f.second) f.second (step_memory f.first ∙ h) in
      omega arith

  frame_memory : (f : FrameParams) → length (Frame.decode words bytes core residuals f).core.memory ≡ length core.memory
  unfolding Frame.decode Frame.report Frame.halves Frame.half
  frame_memory f = half_memory words bytes _ _ f.second ∙ half_memory words bytes core _ f.first

-- ---- a call
abbrev pub Ten : State → Type 0
Ten s = length s.memory ≡ 10

carried_ten : (s : State) → Ten s → length (Celp.carried s).memory ≡ 10
unfolding Celp.carried
carried_ten s h = h

module _ (words : List ℤ) (bytes : List ℕ) where
  started_ten : (n m : ℕ) → Ten (Start.started_by n words bytes m).state
  unfolding Start.started_by Start.initial Start.all_zero
  started_ten zero m = refl
  started_ten (suc n) m = refl

  pub reset_ten : Ten (Start.reset words bytes).state
  unfolding Start.reset Start.started
  reset_ten = started_ten (check words bytes) 2

  pub cold_ten : Ten (Start.cold_start words bytes).state
  unfolding Start.cold_start Start.started
  cold_ten = started_ten (check words bytes) 0

  answer_ten : (n : ℕ) (s : State) (payload : List ℕ) → Ten s → Ten (Celp.answer n words bytes s payload).state
  unfolding Celp.answer Celp.accepted Celp.refused Celp.next Celp.decoded
  answer_ten zero s payload h = frame_memory words bytes (Celp.carried s) s.residuals (fields_of payload) ∙ carried_ten s h
  answer_ten (suc n) s payload h = h

  step_ten : (s : State) (e : Event) → Ten s → Ten (step words bytes s e)
  unfolding step Celp.decode Start.missed_frame
  step_ten s (heard payload room) h = answer_ten (Celp.refusal words bytes s payload room) s payload h
  step_ten s missed h = h

  pub line_ten : (s : State) (line : List ℕ) → Ten s → Ten (line_step words bytes s line)
  unfolding line_step
  line_ten s line h = step_ten s (event line) h

  written_short : (n : ℕ) (s : State) (payload : List ℕ) → Ten s → length (Celp.written n words bytes s payload blank) ≤ 320
  unfolding Celp.written
  written_short zero s payload h = frame_short words bytes (Celp.carried s) s.residuals (fields_of payload) (carried_ten s h)
  written_short (suc n) s payload h = omega arith

  samples_short : (s : State) (payload : List ℕ) → Ten s → length (Celp.samples words bytes s payload blank) ≤ 320
  unfolding Celp.samples
  samples_short s payload h = written_short _ s payload h

-- ---- a text: a line without a newline in it, and its newline
pub record One (t : List ℕ) : Type 0 where
  pub body : List ℕ
  pub is : t ≡ body ++ (10 ∷ [])
  pub plain_body : plain body ≡ true
  pub short : length body ≤ 1282

digit_not : (n : ℕ) → eqb (digit n) 10 ≡ false
unfolding digit
digit_not n = by (ltb n 10)
  where
    by : (t : Bool) → eqb (cond t (48 + n) (87 + n)) 10 ≡ false
    by true = ne_eqb (48 + n) 10 (λ e. omega arith)
    by false = ne_eqb (87 + n) 10 (λ e. omega arith)

four_plain : (n : ℕ) (rest : List ℕ) → plain rest ≡ true → plain (four_digits n ++ rest) ≡ true
unfolding four_digits
four_plain n rest h = rw (digit_not _, digit_not _, digit_not _, digit_not _) h

samples_plain : (s : List ℤ) → plain (sample_text s) ≡ true
unfolding sample_text
samples_plain [] = refl
samples_plain (x ∷ xs) = four_plain (unsigned x) (sample_text xs) (samples_plain xs)

frame_one : (m : ℕ) (s : List ℤ) → length s ≤ 320 → One (frame_text m s)
unfolding frame_text
frame_one m s h = let l = text_long s in record { body = digit m ∷ 32 ∷ sample_text s; is = refl; plain_body = rw (digit_not m) (samples_plain s); short = omega arith }

refused_one : (n : ℕ) → One (refused_text n)
unfolding refused_text
refused_one n = record { body = 114 ∷ 101 ∷ 102 ∷ 117 ∷ 115 ∷ 101 ∷ 100 ∷ 32 ∷ digit n ∷ []; is = refl; plain_body = rw (digit_not n); short = omega arith }

module _ (words : List ℤ) (bytes : List ℕ) where
  text_one : (s : State) (e : Event) → Ten s → One (text words bytes s e)
  unfolding text answer_text
  text_one s (heard payload room) h = by (eqb (Celp.decode words bytes s payload room).number 0)
    where
      by : (t : Bool) → One (cond t (frame_text (Celp.decode words bytes s payload room).mark (Celp.samples words bytes s payload blank)) (refused_text (Celp.decode words bytes s payload room).number))
      by true = frame_one _ _ (samples_short words bytes s payload h)
      by false = refused_one _
  text_one s missed h = refused_one 9

  pub line_one : (s : State) (line : List ℕ) → Ten s → One (line_text words bytes s line)
  unfolding line_text
  line_one s line h = text_one s (event line) h
