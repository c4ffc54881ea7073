-- Each state that a call gives can be held in the struct: its arrays are as long, and its numbers as wide, as the struct says.
use Prim.Native.Nat.{ℕ, zero, suc, ◌+◌, ◌-◌, ◌*◌, ◌%◌, ◌<◌, ◌≤◌}
use Rattle.std.specs.Prelude.{◌≡◌, refl, List, [], ◌∷◌, Bool, true, false, cond, T, ltb, ℤ, pos, ◌+ℤ◌, ◌*ℤ◌, Float, length, get_or, take, drop, replicate}
use Rattle.std.proofs.Common.{sym, ◌∙◌, subst, ltb-true, ltb-false, length-drop}
use native.Mathlib.Omega.{arith}
use Rattle.std.specs.Int.Signed.{mag}
use Rattle.std.specs.Float.{nan, binary32}
use Rattle.std.specs.Float.Ieee.{of_bits, fits}
use Rattle.std.specs.Float.Ieee.Fits.{nan-fits, add-fits, of_int-fits, div-fits}
use Rattle.std.specs.Float.Ieee.Bits.{of_bits-fits}
use Rattle.std.proofs.Math.ListN.{length-append, length-replicate}
use Rattle.std.proofs.lemmas.List.{get_or-replicate}
use Rattle.std.proofs.Math.Seq.{length-take-le}
use Rattle.sequence.specs.Table.{table, length_table, get_or_table}
use Rattle.sequence.specs.Total.{total}
use Rattle.fixed.specs.Fixed.{fold, sat, mul, shift}
use Rattle.tables.specs.Places.{COS, COS_SLOPE, LSP_MEAN, LSF_MEAN}
use Rattle.tables.specs.Tables.{word, log_gain}
use Rattle.bits.specs.declared.HalfParams.{HalfParams}
use Rattle.bits.specs.Bits.{fields_of, gain_index_of}
use Rattle.bits.specs.Widths.{InWidths, within_names, fields_within}
use Rattle.lsp.specs.Lsp as Lsp
use Rattle.pitch.specs.declared.Lag.{Lag}
use Rattle.pitch.specs.Pitch as Pitch
use Rattle.elementary.specs.Elementary.{bits, add}
use Rattle.gain.specs.Gain as Gain
use Rattle.spectral.specs.Spectral as Spectral
use Rattle.spectral.specs.Kept.{Words16, length_residual}
use Rattle.spectral.specs.Pushed.{push_at}
use Rattle.synth.specs.Synth as Synth
use Rattle.output_filter.specs.declared.OutputFilter.{OutputFilter}
use Rattle.output_filter.specs.declared.Taps.{Taps}
use Rattle.output_filter.specs.Postfilter as Postfilter
use Rattle.half.specs.declared.Core.{Core}
use Rattle.half.specs.Core as Spec
use Rattle.half.specs.Figures.{pushed, left_gains}
use Rattle.half.specs.Kept.{fixed_kept, lag_kept}
use Rattle.full.specs.Room.{length_excited}
use Rattle.observation.specs.Frame as Frame
use Rattle.sure.specs.Sure.{after, left_le}
use Rattle.state.specs.declared.State.{State}
use Rattle.state.specs.State.{all_zero, fallen, lsp_mean, initial}
use Rattle.calls.specs.Celp.{refusal, raised, carried, decoded, next, accepted, answer, decode}
use Rattle.calls.specs.Cases.{refused_state}
use Rattle.image.specs.Image.{Whole, Single, Held}
use Rattle.desk_laws.specs.Small.{Small, small_rewritten, small_drop, small_append, small_one, small_zeros, small_table, small_hi, small_trunc32, small_between, whole, whole_small, whole_zeros}

-- ---- the excitation: predicted and mixed samples are of 16 bits
small_mixed : (pitch_gain_of code_gain_of a c : ℤ) → mag (Spec.mixed pitch_gain_of code_gain_of a c) < 32768
unfolding Spec.mixed
small_mixed pitch_gain_of code_gain_of a c = small_hi (sat (fold (shift (fold (mul a pitch_gain_of) (shift (mul c code_gain_of) (pos 1))) (pos 1)) (pos 32768)))

small_predicted : (taps : List ℤ) (phase delay start n : ℕ) (exc : List ℤ) → mag (Pitch.predicted taps phase delay start n exc) < 32768
unfolding Pitch.predicted
small_predicted taps phase delay start n exc = small_hi (sat (fold (Pitch.interpolated_sample taps phase exc (start + n - delay)) (pos 32768)))

small_excited : (words exc : List ℤ) (start : ℕ) (l : Lag) (pitch_gain_of code_gain_of : ℤ) (innovation : List ℤ) → Small 32768 exc → Small 32768 (Spec.excited words exc start l pitch_gain_of code_gain_of innovation)
unfolding Spec.excited Spec.mix Pitch.predict
small_excited words exc start l pitch_gain_of code_gain_of innovation h =
    small_rewritten 32768 (Spec.mixed_at pitch_gain_of code_gain_of innovation start) start (Pitch.predict (Pitch.interp words) exc start l) 80 (λ k x. small_mixed pitch_gain_of code_gain_of (get_or x (start + k) (pos 0)) (get_or innovation k (pos 0)))
    (small_rewritten 32768 (Pitch.predicted (Pitch.interp words) (Pitch.phase l) (Pitch.delay l) start) start exc 80 (small_predicted (Pitch.interp words) (Pitch.phase l) (Pitch.delay l) start) h)

-- ---- the synthesis filter: its memory and its outputs
small_sample : (a h : List ℤ) (x : ℤ) → mag (Synth.sample a h x) < 32768
unfolding Synth.sample
small_sample a h x = small_hi (sat (fold (shift (Synth.prediction a h) (pos 3)) (x *ℤ pos 65536 +ℤ pos 32768)))

module _ (a m xs : List ℤ) where
  small_window : Small 32768 m → (n : ℕ) → Small 32768 (Synth.window a m xs n)
  unfolding Synth.window
  small_window h zero = h
  small_window h (suc n) =
      let w = Synth.window a m xs n in
      let y = Synth.sample a (drop n w) (get_or xs n (pos 0)) in
      small_append 32768 w (y ∷ []) (small_window h n) (small_one 32768 y (small_sample a (drop n w) (get_or xs n (pos 0))))

  length_window : (n : ℕ) → length (Synth.window a m xs n) ≡ length m + n
  unfolding Synth.window
  length_window zero = omega arith
  length_window (suc n) = let l = length_window n in length-append (Synth.window a m xs n) _ ∙ omega arith

  memory_held : Whole 2 10 m → Whole 2 10 (Synth.memory a m xs)
  unfolding Synth.memory
  memory_held h =
      let e = h.0 in
      let l = length_window (length xs) in
      whole 2 10 (drop (length xs) (Synth.window a m xs (length xs))) (length-drop (length xs) (Synth.window a m xs (length xs)) ∙ omega arith) (small_drop 32768 (length xs) (Synth.window a m xs (length xs)) (small_window (whole_small 2 10 m h (omega arith)) (length xs)))

  small_synthesis : Small 32768 m → Small 32768 (Synth.synthesis a m xs)
  unfolding Synth.synthesis
  small_synthesis h = small_drop 32768 10 (Synth.window a m xs (length xs)) (small_window h (length xs))

-- ---- the output filter
abbrev Filter : OutputFilter → Type 0
Filter f = Whole 2 6 f.fir × Whole 4 6 f.iir

moved_held : (B : ℕ) (l : List ℤ) (x y : ℤ) → Small B l → mag x < B → mag y < B → Small B (Postfilter.moved l x y)
unfolding Postfilter.moved
moved_held B l x y h p q zero = p
moved_held B l x y h p q (suc zero) = h 0
moved_held B l x y h p q (suc (suc zero)) = h 1
moved_held B l x y h p q (suc (suc (suc zero))) = q
moved_held B l x y h p q (suc (suc (suc (suc zero)))) = h 3
moved_held B l x y h p q (suc (suc (suc (suc (suc zero))))) = h 4
moved_held B l x y h p q (suc (suc (suc (suc (suc (suc k)))))) = omega arith

length_moved : (l : List ℤ) (x y : ℤ) → length (Postfilter.moved l x y) ≡ 6
unfolding Postfilter.moved
length_moved l x y = refl

section_small : (t : Taps) (f : OutputFilter) (s : ℕ) (x : ℤ) → (mag (Postfilter.filter_section t f s x).value < 32768) × (mag (Postfilter.filter_section t f s x).memory < 2147483648)
unfolding Postfilter.filter_section Postfilter.rounded
section_small t f s x = let sum = Postfilter.section_sum t f s x in (small_hi (sat (fold (shift sum (pos 2)) (pos 32768))), small_trunc32 (shift sum (pos 1)))

sample_held : (t : Taps) (f : OutputFilter) (x : ℤ) → Filter f → mag x < 32768 → Filter (Postfilter.filter_sample t f x).filter
unfolding Postfilter.filter_sample
sample_held t f x h p =
    let a = Postfilter.filter_section t f 0 x in
    let b = Postfilter.filter_section t f 3 a.value in
    let i = section_small t f 0 x in
    let j = section_small t f 3 a.value in (
      whole 2 6 (Postfilter.moved f.fir x a.value) (length_moved f.fir x a.value) (moved_held 32768 f.fir x a.value (whole_small 2 6 f.fir h.0 (omega arith)) p i.0),
      whole 4 6 (Postfilter.moved f.iir a.memory b.memory) (length_moved f.iir a.memory b.memory) (moved_held 2147483648 f.iir a.memory b.memory (whole_small 4 6 f.iir h.1 (omega arith)) i.1 j.1),
    )

after_held : (words : List ℤ) (f : OutputFilter) (xs : List ℤ) → Filter f → Small 32768 xs → Filter (Postfilter.after words f xs)
unfolding Postfilter.after
after_held words f [] h s = h
after_held words f (x ∷ xs) h s = after_held words (Postfilter.filter_sample (Postfilter.taps_of words) f x).filter xs (sample_held (Postfilter.taps_of words) f x h (s 0)) (λ k. s (suc k))

-- ---- a half: what it carries on
pub record Carried (c : Core) : Type 0 where
  pub lsp_held : Whole 2 10 c.lsp
  pub excitation_held : Whole 2 154 c.excitation
  pub memory_held : Whole 2 10 c.memory
  pub sharpen_held : mag c.sharpen_fixed < 32768
  pub lag_held : mag c.last_half_lag < 32768
  pub filter_held : Filter c.filter
  pub gains_held : Single 4 c.gains

-- a float of a list of n, or beyond its end a NaN
fit_at : (n : ℕ) (l : List Float) → Single n l → (k : ℕ) → T (fits binary32 (get_or l k nan))
fit_at zero [] h k = nan-fits binary32
fit_at (suc n) [] h k = nan-fits binary32
fit_at zero (x ∷ l) h k = let e = h.0 in absurd (omega arith)
fit_at (suc n) (x ∷ l) h zero = h.1 0 (omega arith)
fit_at (suc n) (x ∷ l) h (suc k) = let e = h.0 in fit_at n l (omega arith, λ j p. h.1 (suc j) (omega arith)) k

four : (a b c d : Float) → T (fits binary32 a) → T (fits binary32 b) → T (fits binary32 c) → T (fits binary32 d) → Single 4 (a ∷ b ∷ c ∷ d ∷ [])
four a b c d p q r s = (refl, go)
  where
    go : (k : ℕ) → k < 4 → T (fits binary32 (get_or (a ∷ b ∷ c ∷ d ∷ []) k nan))
    go zero h = p
    go (suc zero) h = q
    go (suc (suc zero)) h = r
    go (suc (suc (suc zero))) h = s
    go (suc (suc (suc (suc k)))) h = absurd (omega arith)

log_gain_fits : (bytes : List ℕ) (index : ℕ) → T (fits binary32 (log_gain bytes index))
log_gain_fits bytes index = of_bits-fits binary32 _

pushed_held : (bytes : List ℕ) (v : List Float) (index : ℕ) → Single 4 v → Single 4 (pushed bytes v index)
unfolding pushed
pushed_held bytes v index h = four _ _ _ _ (log_gain_fits bytes index) (fit_at 4 v h 0) (fit_at 4 v h 1) (fit_at 4 v h 2)

module _ (words : List ℤ) (bytes : List ℕ) (core : Core) (lsp : List ℤ) (p : HalfParams) (w : InWidths p) (c : Carried core) (l : Whole 2 10 lsp) where
  room_long : length (Spec.room core.excitation) ≡ 314
  unfolding Spec.room
  room_long =
      let e = c.excitation_held.0 in
      length-append core.excitation (replicate 160 (pos 0)) ∙ omega (arith, length-replicate 160 (pos 0))

  room_small : Small 32768 (Spec.room core.excitation)
  unfolding Spec.room
  room_small = small_append 32768 core.excitation (replicate 160 (pos 0)) (whole_small 2 154 core.excitation c.excitation_held (omega arith)) (small_zeros 32768 160 (omega arith))

  excitation_left : Whole 2 154 (Spec.half words bytes core lsp p).core.excitation
  unfolding Spec.half Spec.kept Spec.behind Spec.between
  excitation_left =
      let t = (Spec.first words bytes core lsp p).trace in
      let u = (Spec.second words bytes core lsp p).trace in
      let x = Spec.excited_by words (Spec.room core.excitation) 154 t in
      let e = length_excited words 154 (Spec.room core.excitation) t.lag t.pitch_gain t.code_gain t.innovation in
      let f = length_excited words 234 x u.lag u.pitch_gain u.code_gain u.innovation in
      let r = room_long in
      whole 2 154 (drop 160 (Spec.excited_by words x 234 u)) (length-drop 160 (Spec.excited_by words x 234 u) ∙ omega arith)
      (small_drop 32768 160 (Spec.excited_by words x 234 u) (small_excited words x 234 u.lag u.pitch_gain u.code_gain u.innovation (small_excited words (Spec.room core.excitation) 154 t.lag t.pitch_gain t.code_gain t.innovation room_small)))

  memory_left : Whole 2 10 (Spec.half words bytes core lsp p).core.memory
  unfolding Spec.half Spec.memory_after
  memory_left =
      let t = (Spec.first words bytes core lsp p).trace in
      let u = (Spec.second words bytes core lsp p).trace in
      memory_held u.lpc (Synth.memory t.lpc core.memory t.mixed_excitation) u.mixed_excitation (memory_held t.lpc core.memory t.mixed_excitation c.memory_held)

  synthesis_small : Small 32768 (Spec.synthesis words bytes core lsp p)
  unfolding Spec.synthesis Spec.synthesised
  synthesis_small =
      let t = (Spec.first words bytes core lsp p).trace in
      let u = (Spec.second words bytes core lsp p).trace in
      let m = Synth.memory t.lpc core.memory t.mixed_excitation in
      let h = memory_held t.lpc core.memory t.mixed_excitation c.memory_held in
      small_append 32768 (Synth.synthesis t.lpc core.memory t.mixed_excitation) (Synth.synthesis u.lpc m u.mixed_excitation)
      (small_synthesis t.lpc core.memory t.mixed_excitation (whole_small 2 10 core.memory c.memory_held (omega arith)))
      (small_synthesis u.lpc m u.mixed_excitation (whole_small 2 10 m h (omega arith)))

  filter_left_lem : Filter (Spec.half words bytes core lsp p).core.filter
  unfolding Spec.half
  filter_left_lem = after_held words core.filter (Spec.synthesis words bytes core lsp p) c.filter_held synthesis_small

  gains_left : Single 4 (Spec.half words bytes core lsp p).core.gains
  gains_left = subst (Single 4) (sym (left_gains words bytes core lsp p)) (pushed_held bytes _ (gain_index_of p 1) (pushed_held bytes core.gains (gain_index_of p 0) c.gains_held))

  lsp_left : Whole 2 10 (Spec.half words bytes core lsp p).core.lsp
  unfolding Spec.half
  lsp_left = l

  half_held : Carried (Spec.half words bytes core lsp p).core
  half_held =
      record {
        lsp_held = lsp_left;
        excitation_held = excitation_left;
        memory_held = memory_left;
        sharpen_held = small_between 3277 13017 _ (fixed_kept words bytes core lsp p) (omega arith);
        lag_held = small_between 19 144 _ (lag_kept words bytes core lsp p w) (omega arith);
        filter_held = filter_left_lem;
        gains_held = gains_left;
      }

-- ---- the LSPs and the residuals of a half
small_cosine : (words : List ℤ) (lsf : ℤ) → mag (Lsp.cosine words lsf) < 32768
unfolding Lsp.cosine
small_cosine words lsf =
    small_hi (fold (Lsp.at words (COS + Lsp.entry (Lsp.position lsf)) *ℤ pos 65536) (mul (pos (Lsp.position lsf % 256 * 8)) (Lsp.at words (COS_SLOPE + Lsp.entry (Lsp.position lsf)))))

lsp_predicted : (words : List ℤ) (bytes : List ℕ) (residuals own : List Float) (mode : ℕ) → Whole 2 10 (Frame.predicted words bytes residuals own mode)
unfolding Frame.predicted Lsp.lsf_to_lsp
lsp_predicted words bytes residuals own mode =
    let lsf = Spectral.quantise_lsf (Spectral.predict residuals own bytes mode) in
    let f : ℕ → ℤ = λ i. Lsp.cosine words (Lsp.at lsf i) in
    whole 2 10 (table f 10) (length_table f 10) (small_table 32768 f 10 (omega arith) (λ k. small_cosine words (Lsp.at lsf k)))

residual_fits : (words : List ℤ) (bytes : List ℕ) (stage1 lo top k : ℕ) → k < 10 → T (fits binary32 (get_or (Spectral.residual words bytes stage1 lo top) k nan))
unfolding Spectral.residual Spectral.residual_at
residual_fits words bytes stage1 lo top k h = subst (λ (x : Float). T (fits binary32 x)) (sym (get_or_table (Spectral.residual_at words bytes stage1 lo top) 10 k nan h)) (add-fits binary32 _ _)

module _ (residuals own : List Float) (h : Single 30 residuals) (own_long : length own ≡ 10) (own-fits : (k : ℕ) → k < 10 → T (fits binary32 (get_or own k nan))) where
  push_long : length (Spectral.push residuals own) ≡ 30
  unfolding Spectral.push
  push_long =
      let e = h.0 in
      let t = length-take-le 20 residuals (omega arith) in
      length-append own (take 20 residuals) ∙ omega arith

  push_fits : (k : ℕ) → k < 30 → T (fits binary32 (get_or (Spectral.push residuals own) k nan))
  push_fits k l = subst (λ (x : Float). T (fits binary32 x)) (push_at residuals own own_long k l) (go (ltb k 10) (ltb-true k 10) (ltb-false k 10))
    where
      go : (b : Bool) → (b ≡ true → k < 10) → (b ≡ false → 10 ≤ k) → T (fits binary32 (cond b (get_or own k nan) (get_or residuals (k - 10) nan)))
      go true y n = own-fits k (y refl)
      go false y n = let q = n refl in h.1 (k - 10) (omega arith)

push_held : (words : List ℤ) (bytes : List ℕ) (residuals : List Float) (p : HalfParams) → Single 30 residuals → Single 30 (Spectral.push residuals (Frame.residual words bytes p))
unfolding Frame.residual
push_held words bytes residuals p h =
    let e = length_residual words bytes p.stage1 p.stage2_low p.stage2_high in
    let f = residual_fits words bytes p.stage1 p.stage2_low p.stage2_high in
    (push_long residuals _ h e f, push_fits residuals _ h e f)

-- ---- a frame
module _ (words : List ℤ) (bytes : List ℕ) (s : State) (h : Held s) where
  carried_held : Carried (carried s)
  unfolding carried
  carried_held =
      record {
        lsp_held = h.lsp_held;
        excitation_held = h.excitation_held;
        memory_held = h.memory_held;
        sharpen_held = h.sharpen_held;
        lag_held = h.lag_held;
        filter_held = (h.fir_held, h.iir_held);
        gains_held = h.gains_held;
      }

  pub fallen_held : Held (fallen s)
  fallen_held =
      record {
        lsp_held = h.lsp_held;
        excitation_held = h.excitation_held;
        memory_held = h.memory_held;
        sharpen_held = h.sharpen_held;
        lag_held = h.lag_held;
        fir_held = h.fir_held;
        iir_held = h.iir_held;
        residuals_held = h.residuals_held;
        gains_held = h.gains_held;
        mark_held = omega arith;
        sure_held = omega arith;
      }

  -- what an accepted frame leaves
  pub next_held : (payload : List ℕ) (m u : ℕ) → m < 256 → u < 256 → Held (next (decoded words bytes s payload) m u)
  unfolding next decoded Frame.decode Frame.report Frame.halves Frame.half
  next_held payload m u l k =
      let i = within_names (fields_of payload) (fields_within payload) in
      let f = fields_of payload in
      let a = half_held words bytes (carried s) _ f.first i.0 carried_held (lsp_predicted words bytes s.residuals _ _) in
      let r = push_held words bytes s.residuals f.first h.residuals_held in
      let b = half_held words bytes _ _ f.second i.1 a (lsp_predicted words bytes _ _ _) in
      record {
        lsp_held = b.lsp_held;
        excitation_held = b.excitation_held;
        memory_held = b.memory_held;
        sharpen_held = b.sharpen_held;
        lag_held = b.lag_held;
        fir_held = b.filter_held.0;
        iir_held = b.filter_held.1;
        residuals_held = push_held words bytes _ f.second r;
        gains_held = b.gains_held;
        mark_held = l;
        sure_held = k;
      }

  abbrev sure_left : List ℕ → ℕ
  sure_left payload = (after s.mark s.sure (decoded words bytes s payload).pitch_gains).left

  accepted_state : (payload : List ℕ) (room : ℕ) → refusal words bytes s payload room ≡ 0 → next (decoded words bytes s payload) (raised s.mark) (sure_left payload) ≡ (decode words bytes s payload room).state
  unfolding decode answer accepted
  accepted_state payload room e = rw e

  raised_small : raised s.mark < 256
  unfolding raised
  raised_small = omega arith

  -- any decode
  pub decode_held : (payload : List ℕ) (room : ℕ) → Held (decode words bytes s payload room).state
  decode_held payload room = by (refusal words bytes s payload room) refl
    where
      by : (n : ℕ) → refusal words bytes s payload room ≡ n → Held (decode words bytes s payload room).state
      by zero e = subst Held (accepted_state payload room e) (next_held payload (raised s.mark) (sure_left payload) raised_small (let l = left_le s.mark s.sure (decoded words bytes s payload).pitch_gains in omega arith))
      by (suc n) e = subst Held (sym (refused_state words bytes s payload room (λ z. omega arith))) fallen_held

-- ---- where a decoder starts, and the all-zero state
zero_fits : (n k : ℕ) → k < n → T (fits binary32 (get_or (replicate n (of_bits binary32 0)) k nan))
zero_fits n k h = subst (λ (x : Float). T (fits binary32 x)) (sym (get_or-replicate n k (of_bits binary32 0) nan h)) (of_bits-fits binary32 0)

pub zero_held : Held all_zero
unfolding all_zero
zero_held =
    record {
      lsp_held = whole_zeros 2 10 (omega arith);
      excitation_held = whole_zeros 2 154 (omega arith);
      memory_held = whole_zeros 2 10 (omega arith);
      sharpen_held = omega arith;
      lag_held = omega arith;
      fir_held = whole_zeros 2 6 (omega arith);
      iir_held = whole_zeros 4 6 (omega arith);
      residuals_held = (refl, zero_fits 30);
      gains_held = (refl, zero_fits 4);
      mark_held = omega arith;
      sure_held = omega arith;
    }

mean_fits : (bytes : List ℕ) → T (fits binary32 (Gain.mean bytes))
unfolding Gain.mean
mean_fits bytes = div-fits binary32 (total add (bits 0) (log_gain bytes) 128) (bits 0x4300_0000)

pub initial_held : (words : List ℤ) (bytes : List ℕ) → Words16 words → (m : ℕ) → m < 256 → Held (initial words bytes m)
unfolding initial lsp_mean Spectral.initial Spectral.initial_at Gain.initial_history
initial_held words bytes w m l =
    record {
      lsp_held = whole 2 10 (lsp_mean words) (length_table (λ k. word words (LSP_MEAN + k)) 10) (small_table 32768 (λ k. word words (LSP_MEAN + k)) 10 (omega arith) (λ k. w (LSP_MEAN + k)));
      excitation_held = whole_zeros 2 154 (omega arith);
      memory_held = whole_zeros 2 10 (omega arith);
      sharpen_held = omega arith;
      lag_held = omega arith;
      fir_held = whole_zeros 2 6 (omega arith);
      iir_held = whole_zeros 4 6 (omega arith);
      residuals_held = (length_table (Spectral.initial_at words) 30, λ k h. subst (λ (x : Float). T (fits binary32 x)) (sym (get_or_table (Spectral.initial_at words) 30 k nan h)) (of_int-fits binary32 (word words (LSF_MEAN + k % 10))));
      gains_held = four (Gain.mean bytes) (Gain.mean bytes) (Gain.mean bytes) (Gain.mean bytes) (mean_fits bytes) (mean_fits bytes) (mean_fits bytes) (mean_fits bytes);
      mark_held = l;
      sure_held = l;
    }
