-- The definition's run, sample by sample, is that of one section after the other over the whole block.
use Rattle.std.proofs.Common.{arith, ◌∙◌}
use Rattle.std.specs.Prelude.{Bool, true, false, cond, ◌||◌, ◌≡◌, pos, negsuc, nat_abs, length, take}
use Rattle.std.proofs.lemmas.Bool.{false≢true}
use Rattle.std.proofs.Math.Path.{refl, ap, sym}
use mathlib.Core.List.{List, [], ◌∷◌, map}
use Prim.Native.Nat.{ℕ, zero, suc, ◌≤◌, ◌<◌}
use Rattle.std.proofs.Math.IntN.{ℤ}
use Rattle.std.specs.Int.Signed.{lt_z}
use Rattle.sequence.specs.Count.{count, count_same}
use Rattle.sequence.specs.Total.{total}
use Rattle.fixed.specs.Fixed.{clamp, acc, clips, mul}
use Rattle.output_filter.specs.declared.OutputFilter.{OutputFilter}
use Rattle.output_filter.specs.declared.Taps.{Taps}
use Rattle.output_filter.specs.Postfilter as Postfilter
use Rattle.output_filter.specs.Sections.{lines_of, both, line_sum, moved, wide, through, left, length_through, short, beyond, scaled_by, fifths, clips_at, clipped_by, hi_short, clips_wide, abs_short, fifths_is, firsts, seconds}
use Rattle.output_filter.specs.Postfilter.{taps_of, at, inputs, section_sum, filter_section, filter_sample, outputs, after, rounded, rounded_sum, rounded_sum_lem, scaled, sample_clips, clipped}

scaling_clips : (value : ℤ) → nat_abs value ≤ 32768 → clips (rounded_sum (acc (mul value (pos 19661))) (pos 1)) ≡ beyond (fifths value)
scaling_clips value h = clips_wide (rounded_sum (acc (mul value (pos 19661))) (pos 1)) ∙ ap beyond (fifths_is value h)

-- the ends are scaled beyond 16 bits
shown : (v : ℤ) → beyond v ≡ true → beyond (fifths (short v)) ≡ true
unfolding beyond short clamp scaled_by
shown v h = go (lt_z v (negsuc 32767)) (lt_z (pos 32767) v) h
  where
    go : (s t : Bool) → (s || t) ≡ true → beyond (fifths (cond s (negsuc 32767) (cond t (pos 32767) v))) ≡ true
    go true t e = refl
    go false true e = refl
    go false false e = absurd (false≢true e)

implied : (a b c : Bool) → (b ≡ true → c ≡ true) → (a || b || c) ≡ (a || c)
implied true b c h = refl
implied false true c h = sym (h refl)
implied false false c h = refl

-- ---- the definition's run, sample by sample, is this
module _ (words : List ℤ) where
  abbrev T : Taps
  T = taps_of words

  abbrev next : OutputFilter → ℤ → OutputFilter
  next f x = (filter_sample T f x).filter

  abbrev first : OutputFilter → ℤ → ℤ
  first f x = (filter_section T f 0 x).value

  value_is : (f : OutputFilter) (s : ℕ) (x : ℤ) → (filter_section T f s x).value ≡ short (wide (section_sum T f s x))
  unfolding filter_section wide
  value_is f s x = rounded_sum_lem (section_sum T f s x) (pos 2) ∙ hi_short (rounded_sum (section_sum T f s x) (pos 2))

  -- a sample more
  firsts_cons : (f : OutputFilter) (x : ℤ) (xs : List ℤ) → firsts words f (x ∷ xs) ≡ wide (section_sum T f 0 x) ∷ firsts words (next f x) xs
  unfolding through line_sum lines_of moved section_sum inputs total filter_sample filter_section Postfilter.moved
  firsts_cons f x xs = refl

  after_first : (f : OutputFilter) (x : ℤ) (xs : List ℤ) → left T (lines_of f 0) (x ∷ xs) ≡ left T (lines_of (next f x) 0) xs
  unfolding left line_sum lines_of moved section_sum inputs total filter_sample filter_section Postfilter.moved
  after_first f x xs = refl

  second_cons : (f : OutputFilter) (x : ℤ) (ys : List ℤ) → through T (lines_of f 3) (first f x ∷ ys) ≡ wide (section_sum T f 3 (first f x)) ∷ through T (lines_of (next f x) 3) ys
  unfolding through line_sum lines_of moved section_sum inputs total filter_sample filter_section Postfilter.moved
  second_cons f x ys = refl

  second_left : (f : OutputFilter) (x : ℤ) (ys : List ℤ) → left T (lines_of f 3) (first f x ∷ ys) ≡ left T (lines_of (next f x) 3) ys
  unfolding left line_sum lines_of moved section_sum inputs total filter_sample filter_section Postfilter.moved
  second_left f x ys = refl

  shortened : (f : OutputFilter) (x : ℤ) (xs : List ℤ) → map short (firsts words f (x ∷ xs)) ≡ first f x ∷ map short (firsts words (next f x) xs)
  shortened f x xs = ap (map short) (firsts_cons f x xs) ∙ ap (λ (v : ℤ). v ∷ map short (firsts words (next f x) xs)) (sym (value_is f 0 x))

  seconds_cons : (f : OutputFilter) (x : ℤ) (xs : List ℤ) → seconds words f (x ∷ xs) ≡ wide (section_sum T f 3 (first f x)) ∷ seconds words (next f x) xs
  seconds_cons f x xs = ap (through T (lines_of f 3)) (shortened f x xs) ∙ second_cons f x (map short (firsts words (next f x) xs))

  -- the outputs
  pub outputs_by : (f : OutputFilter) (xs : List ℤ) → outputs words f xs ≡ map scaled (map short (seconds words f xs))
  unfolding outputs through filter_sample
  outputs_by f [] = refl
  outputs_by f (x ∷ xs) = (λ i. scaled (value_is f 3 (first f x) i) ∷ outputs_by (next f x) xs i) ∙ sym (ap (λ (l : List ℤ). map scaled (map short l)) (seconds_cons f x xs))

  -- the filter after them
  six : (l : List ℤ) → length l ≡ 6 → l ≡ at l 0 ∷ at l 1 ∷ at l 2 ∷ at l 3 ∷ at l 4 ∷ at l 5 ∷ []
  six [] h = absurd (omega arith)
  six (a ∷ []) h = absurd (omega arith)
  six (a ∷ b ∷ []) h = absurd (omega arith)
  six (a ∷ b ∷ c ∷ []) h = absurd (omega arith)
  six (a ∷ b ∷ c ∷ d ∷ []) h = absurd (omega arith)
  six (a ∷ b ∷ c ∷ d ∷ e ∷ []) h = absurd (omega arith)
  six (a ∷ b ∷ c ∷ d ∷ e ∷ f ∷ []) h = refl
  six (a ∷ b ∷ c ∷ d ∷ e ∷ f ∷ g ∷ l) h = absurd (omega arith)

  sized : (f : OutputFilter) (x : ℤ) → (length (next f x).fir ≡ 6) × (length (next f x).iir ≡ 6)
  unfolding filter_sample Postfilter.moved
  sized f x = (refl, refl)

  pub after_by : (f : OutputFilter) (xs : List ℤ) → length f.fir ≡ 6 → length f.iir ≡ 6 → after words f xs ≡ both (left T (lines_of f 0) xs) (left T (lines_of f 3) (map short (firsts words f xs)))
  unfolding after left through both lines_of
  after_by f [] h k = λ i. record { fir = six f.fir h i; iir = six f.iir k i }
  after_by f (x ∷ xs) h k =
      after_by (next f x) xs (sized f x).0 (sized f x).1
      ∙ (λ i. both (sym (after_first f x xs) i) (sym (ap (left T (lines_of f 3)) (shortened f x xs) ∙ second_left f x (map short (firsts words (next f x) xs))) i))

  -- ---- the second section's saturation need not be looked at: what it changed is at an end, which the scaling changes too
  sample_clips_lem : (f : OutputFilter) (x : ℤ) → sample_clips T f x ≡ clips_at (wide (section_sum T f 0 x)) (wide (section_sum T f 3 (first f x)))
  unfolding sample_clips clips_at wide
  sample_clips_lem f x =
      let b : ℤ = wide (section_sum T f 3 (first f x)) in
      (λ i. clips_wide (rounded_sum (section_sum T f 0 x) (pos 2)) i || clips_wide (rounded_sum (section_sum T f 3 (first f x)) (pos 2)) i || (ap (λ (v : ℤ). clips (rounded_sum (acc (mul v (pos 19661))) (pos 1))) (value_is f 3 (first f x)) ∙ scaling_clips (short b) (abs_short b)) i)
      ∙ implied (beyond (wide (section_sum T f 0 x))) (beyond b) (beyond (fifths (short b))) (shown b)

  clips_by : (f : OutputFilter) (xs : List ℤ) (n : ℕ) → n < length xs → sample_clips T (after words f (take n xs)) (at xs n) ≡ clips_at (at (firsts words f xs) n) (at (seconds words f xs) n)
  unfolding after
  clips_by f [] n h = absurd (omega arith)
  clips_by f (x ∷ xs) zero h = sample_clips_lem f x ∙ sym (λ i. clips_at (at (firsts_cons f x xs i) 0) (at (seconds_cons f x xs i) 0))
  clips_by f (x ∷ xs) (suc n) h = clips_by (next f x) xs n (omega arith) ∙ sym (λ i. clips_at (at (firsts_cons f x xs i) (suc n)) (at (seconds_cons f x xs i) (suc n)))

  pub clipped_by_lem : (f : OutputFilter) (xs : List ℤ) → clipped words f xs ≡ clipped_by (firsts words f xs) (seconds words f xs)
  unfolding clipped clipped_by
  clipped_by_lem f xs =
      count_same _ _ (length xs) (clips_by f xs)
      ∙ ap (count (λ n. clips_at (at (firsts words f xs) n) (at (seconds words f xs) n))) (sym (length_through T (lines_of f 0) xs))
