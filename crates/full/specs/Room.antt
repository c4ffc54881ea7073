-- What stands in the last 160 places of the room does not matter: they are written before they are read. In the Rust they hold samples of the half before.
use native.Mathlib.Omega.{arith}
use Rattle.std.specs.Prelude.{◌≡◌, List, [], ◌∷◌, ◌++◌, ℤ, pos, Float, length, get_or, take, drop, replicate}
use Rattle.std.proofs.Math.Path.{sym, ap}
use Rattle.std.proofs.Common.{◌∙◌, take_all, take-suc-set, length-take-le}
use Prim.Native.Nat.{ℕ, zero, suc, ◌+◌, ◌-◌, ◌≤◌, ◌<◌}
use Rattle.std.proofs.Math.ListN.{set, length-append, length-replicate}
use Rattle.std.proofs.Math.Seq.{take_at, drop_at, take-set-lt, take-add}
use Rattle.sequence.specs.Rewritten.{rewritten, length_rewritten}
use Rattle.fixed.specs.Fixed.{fold, sat, hi}
use Rattle.bits.specs.declared.HalfParams.{HalfParams}
use Rattle.bits.specs.Widths.{InWidths}
use Rattle.pitch.specs.declared.Lag.{Lag}
use Rattle.pitch.specs.Pitch as Pitch
use Rattle.pitch.specs.Lags.{sane_delay, absolute_sane, relative_sane}
use Rattle.pitch.specs.Kept.{length_predict}
use Rattle.pitch.specs.Reads.{Agree, agree_at, interpolated_same}
use Rattle.half.specs.declared.Core.{Core}
use Rattle.half.specs.declared.SubframeParams.{SubframeParams}
use Rattle.half.specs.Core as Spec

agree_all : (n : ℕ) (x y : List ℤ) → length x ≡ n → length y ≡ n → Agree n x y → x ≡ y
agree_all n x y a b e = sym (take_all n x (omega arith)) ∙ e ∙ take_all n y (omega arith)

module _ (g : ℕ → List ℤ → ℤ) (start : ℕ) (x y : List ℤ) where
  -- stores that read only what stands before them
  grown : ((n : ℕ) (u v : List ℤ) → Agree (start + n) u v → g n u ≡ g n v) → (N : ℕ) → start + N ≤ length x → start + N ≤ length y → Agree start x y → Agree (start + N) (rewritten g start x N) (rewritten g start y N)
  unfolding rewritten
  grown reads zero a b e = let z : start + 0 ≡ start = omega arith in rw z e
  grown reads (suc N) a b e =
      let u = rewritten g start x N in
      let v = rewritten g start y N in
      let r : Agree (start + N) u v = grown reads N (omega arith) (omega arith) e in
      let z : start + suc N ≡ suc (start + N) = omega arith in
      let f : g N u ≡ g N v = reads N u v r in
      rw z
      (take-suc-set u (start + N) (g N u) (omega (arith, length_rewritten g start x N))
      ∙ (λ i. r i ++ (f i ∷ []))
      ∙ sym (take-suc-set v (start + N) (g N v) (omega (arith, length_rewritten g start y N))))

  -- stores that read what stands before place m, within which they are
  held : (m : ℕ) → ((n : ℕ) (u v : List ℤ) → start + n < m → Agree m u v → g n u ≡ g n v) → (N : ℕ) → start + N ≤ m → Agree m x y → Agree m (rewritten g start x N) (rewritten g start y N)
  unfolding rewritten
  held m reads zero h e = e
  held m reads (suc N) h e =
      let u = rewritten g start x N in
      let v = rewritten g start y N in
      let r : Agree m u v = held m reads N (omega arith) e in
      let f : g N u ≡ g N v = reads N u v (omega arith) r in
      take-set-lt m u (start + N) (g N u) (omega arith) ∙ (λ i. set (r i) (start + N) (f i)) ∙ sym (take-set-lt m v (start + N) (g N v) (omega arith))

-- ---- prediction reads only what stands before the sample that it makes
module _ (taps : List ℤ) (l : Lag) (s : Pitch.Sane l) (start n : ℕ) (h : 154 ≤ start) (x y : List ℤ) (e : Agree (start + n) x y) where
  predicted_same : Pitch.predicted taps (Pitch.phase l) (Pitch.delay l) start n x ≡ Pitch.predicted taps (Pitch.phase l) (Pitch.delay l) start n y
  unfolding Pitch.predicted
  predicted_same =
      let d = sane_delay l s in
      ap (λ (z : ℤ). hi (sat (fold z (pos 32768)))) (interpolated_same taps (Pitch.phase l) (start + n - Pitch.delay l) (start + n) x y e (omega arith))

-- ---- a subframe
pub length_excited : (words : List ℤ) (start : ℕ) (z : List ℤ) (l : Lag) (pitch_gain_of code_gain_of : ℤ) (innovation : List ℤ) → length (Spec.excited words z start l pitch_gain_of code_gain_of innovation) ≡ length z
unfolding Spec.excited Spec.mix
length_excited words start z l pitch_gain_of code_gain_of innovation = length_rewritten _ start _ 80 ∙ length_predict (Pitch.interp words) z start l

module _ (words : List ℤ) (start : ℕ) (x y : List ℤ) (h : 154 ≤ start) (a : start + 80 ≤ length x) (b : start + 80 ≤ length y) (e : Agree start x y) where
  -- its excitation is made of what stands before it
  pub excited_agree : (l : Lag) → Pitch.Sane l → (pitch_gain_of code_gain_of : ℤ) (innovation : List ℤ) → Agree (start + 80) (Spec.excited words x start l pitch_gain_of code_gain_of innovation) (Spec.excited words y start l pitch_gain_of code_gain_of innovation)
  unfolding Spec.excited Spec.mix Pitch.predict
  excited_agree l s pitch_gain_of code_gain_of innovation =
      let taps = Pitch.interp words in
      held _ start _ _ (start + 80) (λ n u v g r. ap (λ (z : ℤ). Spec.mixed pitch_gain_of code_gain_of z (get_or innovation n (pos 0))) (agree_at (start + 80) (start + n) u v r g)) 80 (omega arith)
      (grown (Pitch.predicted taps (Pitch.phase l) (Pitch.delay l) start) start x y (λ n u v r. predicted_same taps l s start n h u v r) 80 a b e)

  part_same : (u v : List ℤ) → length u ≡ length x → length v ≡ length y → Agree (start + 80) u v → Spec.part u start ≡ Spec.part v start
  unfolding Spec.part
  part_same u v m n r =
      sym (drop_at (take start u) (take 80 (drop start u)) start (length-take-le start u (omega arith)))
      ∙ ap (drop start) (sym (take-add start 80 u) ∙ r ∙ take-add start 80 v)
      ∙ drop_at (take start v) (take 80 (drop start v)) start (length-take-le start v (omega arith))

  -- and so is all of it
  pub subframe_same : (bytes : List ℕ) (p : SubframeParams) → Pitch.Sane p.lag → (sharpenFixed lastHalfLag : ℤ) (gains : List Float) → Spec.decode_subframe words bytes x start p sharpenFixed lastHalfLag gains ≡ Spec.decode_subframe words bytes y start p sharpenFixed lastHalfLag gains
  unfolding Spec.decode_subframe
  subframe_same bytes p s sharpenFixed lastHalfLag gains =
      ap (Spec.traced p gains _ _) (part_same _ _ (length_excited words start x _ _ _ _) (length_excited words start y _ _ _ _) (excited_agree p.lag s _ _ _))

-- ---- a half, with whatever stands in the last 160 places
module _ (words : List ℤ) (bytes : List ℕ) (core : Core) (lsp : List ℤ) (p : HalfParams) (w : InWidths p) (kept : length core.excitation ≡ 154) (stale : List ℤ) (many : length stale ≡ 160) where
  abbrev zeros : List ℤ
  zeros = Spec.room core.excitation

  abbrev pub other : List ℤ
  other = core.excitation ++ stale

  other_long : length other ≡ 314
  other_long = length-append core.excitation stale ∙ omega arith

  zeros_long : length zeros ≡ 314
  unfolding Spec.room
  zeros_long = length-append core.excitation (replicate 160 (pos 0)) ∙ omega (arith, length-replicate 160 (pos 0))

  before : Agree 154 other zeros
  unfolding Spec.room
  before = take_at core.excitation stale 154 kept ∙ sym (take_at core.excitation (replicate 160 (pos 0)) 154 kept)

  -- the lags are what a code can give, as parameters and in the traces
  first_sane : Pitch.Sane (Spec.params words bytes core lsp p).first.lag
  unfolding Spec.params Spec.split_params
  first_sane = absolute_sane p.absolute_pitch w.absolute_pitch

  second_sane : Pitch.Sane (Spec.params words bytes core lsp p).second.lag
  unfolding Spec.params Spec.split_params
  second_sane = relative_sane p.relative_pitch (Pitch.decode_absolute p.absolute_pitch).integer w.relative_pitch

  first_traced : Pitch.Sane (Spec.first words bytes core lsp p).trace.lag
  unfolding Spec.first Spec.decode_subframe Spec.traced
  first_traced = first_sane

  second_traced : Pitch.Sane (Spec.second words bytes core lsp p).trace.lag
  unfolding Spec.second Spec.decode_subframe Spec.traced
  second_traced = second_sane

  -- the first subframe is the same, and the excitation up to its end
  pub first_same : Spec.decode_subframe words bytes other 154 (Spec.params words bytes core lsp p).first core.sharpen_fixed core.last_half_lag core.gains ≡ Spec.first words bytes core lsp p
  unfolding Spec.first
  first_same = subframe_same words 154 other zeros (omega arith) (omega (arith, other_long)) (omega (arith, zeros_long)) before bytes _ first_sane _ _ _

  abbrev pub between : List ℤ
  between = Spec.excited_by words other 154 (Spec.first words bytes core lsp p).trace

  between_agree : Agree 234 between (Spec.between words bytes core lsp p)
  unfolding Spec.between
  between_agree = excited_agree words 154 other zeros (omega arith) (omega (arith, other_long)) (omega (arith, zeros_long)) before _ first_traced _ _ _

  pub between_long : length between ≡ 314
  between_long = length_excited words 154 other _ _ _ _ ∙ other_long

  own_long : length (Spec.between words bytes core lsp p) ≡ 314
  unfolding Spec.between
  own_long = length_excited words 154 zeros _ _ _ _ ∙ zeros_long

  -- and so are the second, and all of the excitation
  pub second_same : Spec.decode_subframe words bytes between 234 (Spec.params words bytes core lsp p).second (Spec.first words bytes core lsp p).sharpen_fixed core.last_half_lag (Spec.first words bytes core lsp p).gains ≡ Spec.second words bytes core lsp p
  unfolding Spec.second
  second_same = subframe_same words 234 between (Spec.between words bytes core lsp p) (omega arith) (omega (arith, between_long)) (omega (arith, own_long)) between_agree bytes _ second_sane _ _ _

  pub behind_same : Spec.excited_by words between 234 (Spec.second words bytes core lsp p).trace ≡ Spec.behind words bytes core lsp p
  unfolding Spec.behind
  behind_same =
      agree_all 314 _ _ (length_excited words 234 between _ _ _ _ ∙ between_long) (length_excited words 234 (Spec.between words bytes core lsp p) _ _ _ _ ∙ own_long)
      (excited_agree words 234 between (Spec.between words bytes core lsp p) (omega arith) (omega (arith, between_long)) (omega (arith, own_long)) between_agree _ second_traced _ _ _)
