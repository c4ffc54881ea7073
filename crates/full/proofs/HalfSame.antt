-- What our state leaves out of core.rs's does not matter. With anything in the last 160 of the 314 samples, in `sharpen_voiced` and in `previous_lag`, core.rs's half
-- answers our samples and traces, and what it leaves restricts to what ours leaves; there `previous_lag` is `last_half_lag` again.
use Rattle.std.proofs.Common.{arith, sym, subst, ◌∙◌, ne_eqb, le-leb, le-ltb, length-append, length-drop, take-append-drop, length-take-le}
use Rattle.std.specs.Prelude.{cond, ◌||◌, ◌&&◌, ◌≡◌, refl, List, ℕ, zero, suc, ◌+◌, ◌*◌, eqb, leb, ltb, ℤ, pos, length, take, drop, Float}
use Rattle.std.proofs.Math.Path.{ap}
use Rattle.std.proofs.Math.Seq.{take_at}
use Rattle.std.specs.Int.Signed.{lt_z}
use Rattle.bits.specs.declared.HalfParams.{HalfParams}
use Rattle.bits.specs.Bits as Bits
use Rattle.bits.specs.Widths.{InWidths}
use Rattle.lsp.specs.declared.Pair.{Pair}
use Rattle.lsp.specs.Lsp as Lsp
use Rattle.pitch.specs.declared.Lag.{Lag}
use Rattle.pitch.specs.Pitch as Pitch
use Rattle.pitch.specs.Buffered.{sharpen_buffered, sharpen_buffered_lem}
use Rattle.pitch.specs.Lags.{absolute_sane, relative_sane}
use Rattle.code_index.specs.declared.Innovation.{Innovation}
use Rattle.code_index.specs.Codebook as Codebook
use Rattle.code_index.specs.Ranges.{length_code}
use Rattle.excitation.specs.declared.InterpolationGains.{InterpolationGains}
use Rattle.synth.specs.Synth as Synth
use Rattle.half.specs.declared.Core.{Core}
use Rattle.half.specs.declared.SubframeParams.{SubframeParams}
use Rattle.half.specs.declared.Subframe.{Subframe}
use Rattle.half.specs.Core as Spec
use Rattle.full.specs.Room as Room
use Rattle.full.specs.Half.{Full, Stepped, finished, subframe, moved, replaced, ended, joined, decode, restricted, filled}
use Rattle.full.specs.HalfSame.{Answers}

-- ---- a subframe
-- the choice of the gain is ours
choice : (class : ℕ) (g : InterpolationGains) → cond (eqb class 5 || (leb 1 class && ltb class 3)) g.voiced g.fixed ≡ Spec.sharpen_gain class g
unfolding Spec.sharpen_gain
choice zero g = refl
choice (suc zero) g = refl
choice (suc (suc zero)) g = refl
choice (suc (suc (suc zero))) g = refl
choice (suc (suc (suc (suc zero)))) g = refl
choice (suc (suc (suc (suc (suc zero))))) g = refl
choice (suc (suc (suc (suc (suc (suc n)))))) g =
    let k : ℕ = suc (suc (suc (suc (suc (suc n))))) in
    rw (ne_eqb k 1 (λ e. omega arith), ne_eqb k 2 (λ e. omega arith), ne_eqb k 5 (λ e. omega arith), le-leb 1 k (omega arith), le-ltb k 3 (omega arith))

-- and so is the sharpened innovation
shaped_same : (words : List ℤ) (index : ℕ) (lag : Lag) (g : InterpolationGains) → Pitch.Sane lag
    → cond (lt_z lag.integer (pos 80)) (sharpen_buffered (Pitch.interp words) (Codebook.decode words index).code lag (cond (eqb (Codebook.decode words index).class 5 || (leb 1 (Codebook.decode words index).class && ltb (Codebook.decode words index).class 3)) g.voiced g.fixed)) (Codebook.decode words index).code
    ≡ (Spec.shaped words (Codebook.decode words index) lag g).code
unfolding Spec.shaped
shaped_same words index lag g s =
    let i : Innovation = Codebook.decode words index in
    ap (λ (x : List ℤ). cond (lt_z lag.integer (pos 80)) x i.code)
    (sharpen_buffered_lem (Pitch.interp words) i.code lag _ s (length_code words index) ∙ ap (Pitch.sharpen (Pitch.interp words) i.code lag) (choice i.class g))

module _ (words : List ℤ) (bytes : List ℕ) (p : HalfParams) where
  -- what our subframe is given of it
  abbrev given : Pair → ℕ → Full → SubframeParams
  given lpcs sub core = record {
    lpc = cond (eqb sub 0) lpcs.first lpcs.second;
    lag = cond (eqb sub 0) (Pitch.decode_absolute p.absolute_pitch) (Pitch.decode_relative p.relative_pitch core.previous_lag);
    index = cond (eqb sub 0) p.code0 p.code1;
    gain_index = Bits.gain_index_of p sub;
  }

  -- what core.rs leaves of a subframe that is ours
  abbrev left : ℕ → Full → Subframe → Stepped
  left start core s = record {
    core = record {
      previous_lsp = core.previous_lsp;
      excitation = Spec.excited_by words core.excitation start s.trace;
      synthesis_memory = Synth.memory s.trace.lpc core.synthesis_memory s.trace.mixed_excitation;
      sharpen_fixed = s.sharpen_fixed;
      sharpen_voiced = (Spec.sharpen_gains s.trace.lpc s.trace.lag core.sharpen_fixed core.last_half_lag).voiced;
      last_half_lag = core.last_half_lag;
      previous_lag = s.trace.lag.integer;
      output_filter = core.output_filter;
    };
    gains = s.gains;
    out = Synth.synthesis s.trace.lpc core.synthesis_memory s.trace.mixed_excitation;
    trace = s.trace;
  }

  subframe_same : (lpcs : Pair) (sub : ℕ) (core : Full) (gains : List Float) → Pitch.Sane (given lpcs sub core).lag
      → subframe words bytes p lpcs sub core gains ≡ left (154 + 80 * sub) core (Spec.decode_subframe words bytes core.excitation (154 + 80 * sub) (given lpcs sub core) core.sharpen_fixed core.last_half_lag gains)
  unfolding subframe finished Spec.decode_subframe Spec.traced Spec.innovation Spec.shaped Spec.sharpen_gains Spec.excited Spec.part Spec.clamped
  subframe_same lpcs sub core gains s =
      let g : SubframeParams = given lpcs sub core in
      let sharpen : InterpolationGains = Spec.sharpen_gains g.lpc g.lag core.sharpen_fixed core.last_half_lag in
      ap (finished bytes p sub core gains g.lpc g.lag (154 + 80 * sub) (Pitch.predict (Pitch.interp words) core.excitation (154 + 80 * sub) g.lag) sharpen.voiced (Codebook.decode words g.index).class)
      (shaped_same words g.index g.lag sharpen s)

-- ---- a half
-- of what is moved the first 154 samples are those that we keep
module _ (e : List ℤ) (l : length e ≡ 314) where
  moved_kept : take 154 (moved e) ≡ Spec.kept e
  unfolding moved Spec.kept
  moved_kept = take_at (drop 160 e) (drop 154 e) 154 (length-drop 160 e ∙ omega arith)

  moved_long : length (moved e) ≡ 314
  unfolding moved
  moved_long = simp (length-append, length-drop) (omega arith)

module _ (words : List ℤ) (bytes : List ℕ) (c : Core) (lsp : List ℤ) (p : HalfParams) (w : InWidths p) (kept : length c.excitation ≡ 154) (stale : List ℤ) (many : length stale ≡ 160) (voiced lag : ℤ) where
  abbrev core : Full
  core = replaced (filled c stale voiced lag) lsp

  abbrev lpcs : Pair
  lpcs = Lsp.interpolate_pair c.lsp lsp

  abbrev a : Stepped
  a = subframe words bytes p lpcs 0 core c.gains

  -- both subframes are ours
  abbrev a' : Stepped
  a' = left words bytes p 154 core (Spec.first words bytes c lsp p)

  first_is : a ≡ a'
  unfolding replaced filled Spec.params Spec.split_params
  first_is =
      subframe_same words bytes p lpcs 0 core c.gains (absolute_sane p.absolute_pitch w.absolute_pitch)
      ∙ ap (left words bytes p 154 core) (Room.first_same words bytes c lsp p w kept stale many)

  abbrev b' : Stepped
  b' = left words bytes p 234 a'.core (Spec.second words bytes c lsp p)

  second_is : subframe words bytes p lpcs 1 a.core a.gains ≡ b'
  unfolding replaced filled Spec.params Spec.split_params Spec.first Spec.decode_subframe Spec.traced
  second_is =
      ap (λ (x : Stepped). subframe words bytes p lpcs 1 x.core x.gains) first_is
      ∙ subframe_same words bytes p lpcs 1 a'.core a'.gains (relative_sane p.relative_pitch _ w.relative_pitch)
      ∙ ap (left words bytes p 234 a'.core) (Room.second_same words bytes c lsp p w kept stale many)

  both_are : decode words bytes (filled c stale voiced lag) lsp p c.gains ≡ joined words a' b'
  unfolding decode filled
  both_are = λ i. joined words (first_is i) (second_is i)

  behind_long : length (Spec.behind words bytes c lsp p) ≡ 314
  behind_long =
      ap length (sym (Room.behind_same words bytes c lsp p w kept stale many))
      ∙ Room.length_excited words 234 (Room.between words bytes c lsp p w kept stale many) _ _ _ _
      ∙ Room.between_long words bytes c lsp p w kept stale many

  behind_is : b'.core.excitation ≡ Spec.behind words bytes c lsp p
  unfolding replaced filled
  behind_is = Room.behind_same words bytes c lsp p w kept stale many

  joined_answers : Answers words bytes c lsp p (joined words a' b')
  unfolding joined ended restricted replaced filled Spec.half Spec.samples Spec.synthesis Spec.synthesised Spec.memory_after
  joined_answers =
      record {
        samples = refl;
        first = refl;
        second = refl;
        next = rw (behind_is, moved_kept (Spec.behind words bytes c lsp p) behind_long);
        long = rw behind_is (moved_long (Spec.behind words bytes c lsp p) behind_long);
        lags = refl;
      }

  -- the theorem: with anything in those places
  pub half_same : Answers words bytes c lsp p (decode words bytes (filled c stale voiced lag) lsp p c.gains)
  half_same = rw both_are joined_answers

-- ---- and so with every full core of 314 samples, by what our state has of it
refilled : (core : Full) (gains : List Float) → filled (restricted core gains) (drop 154 core.excitation) core.sharpen_voiced core.previous_lag ≡ core
unfolding filled restricted
refilled core gains = rw (take-append-drop 154 core.excitation)

pub full_same : (words : List ℤ) (bytes : List ℕ) (core : Full) (lsp : List ℤ) (p : HalfParams) (gains : List Float) → InWidths p → length core.excitation ≡ 314
    → Answers words bytes (restricted core gains) lsp p (decode words bytes core lsp p gains)
unfolding restricted
full_same words bytes core lsp p gains w long =
    let e : List ℤ = core.excitation in
    subst (λ (x : Full). Answers words bytes (restricted core gains) lsp p (decode words bytes x lsp p gains)) (refilled core gains)
    (half_same words bytes (restricted core gains) lsp p w (length-take-le 154 e (omega arith)) (drop 154 e) (length-drop 154 e ∙ omega arith) core.sharpen_voiced core.previous_lag)
