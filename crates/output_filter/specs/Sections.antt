-- One section after the other over the whole block, each with its own delay lines; what saturates is done to the block after it.
use Rattle.std.proofs.Common.{arith, ◌∙◌, ltb-true, ltb-false}
use Rattle.std.specs.Prelude.{Bool, true, false, cond, ◌||◌, ◌≡◌, ltb, pos, negsuc, neg_ℤ, nat_abs, ◌+ℤ◌, ◌*ℤ◌, length, get_or, take}
use Rattle.std.proofs.lemmas.Bool.{false≢true}
use Rattle.std.proofs.Math.Path.{refl, ap, sym}
use mathlib.Core.List.{List, [], ◌∷◌, map}
use Prim.Native.Nat.{ℕ, zero, suc, ◌+◌, ◌*◌, ◌/◌, ◌≤◌, ◌<◌}
use Rattle.std.proofs.Math.IntN.{ℤ}
use Rattle.std.proofs.lemmas.List.{length-map}
use Rattle.std.proofs.Math.ListN.{get_or-map}
use Rattle.std.specs.Int.Signed.{shr_z, lt_z}
use Rattle.sequence.specs.Count.{count}
use Rattle.fixed.specs.Fixed.{residue, signed, wrap, clamp, acc, fold, sat, clips, hi, trunc32, mul, shift}
use Rattle.fixed.specs.Abs.{abs_mul_le}
use Rattle.fixed.specs.Integers.{mul_add, mul_mul}
use Rattle.fixed.specs.Wrap.{wrap_id, acc_fits}
use Rattle.fixed.specs.Shifts.{shift_up}
use Rattle.fixed.specs.Sums.{fold_fits}
use Rattle.fixed.specs.Bounds.{abs_mul_by}
use Rattle.fixed.specs.Clips.{clips_beyond, at_end, ends, no_end, count_nowhere}
use Rattle.output_filter.specs.declared.Lines.{Lines}
use Rattle.output_filter.specs.declared.OutputFilter.{OutputFilter}
use Rattle.output_filter.specs.declared.Taps.{Taps}
use Rattle.output_filter.specs.Postfilter.{taps_of, at, section_sum, rounded, rounded_sum, rounded_sum_lem, scaled}

-- ---- a section alone
-- the delay lines of the section that begins at place s, and a filter of two sections' lines
unfoldable pub lines_of : OutputFilter → ℕ → Lines
lines_of f s =
    record { fir = at f.fir s ∷ at f.fir (s + 1) ∷ at f.fir (s + 2) ∷ []; iir = at f.iir s ∷ at f.iir (s + 1) ∷ at f.iir (s + 2) ∷ [] }

unfoldable pub both : Lines → Lines → OutputFilter
both a b =
    record {
      fir = at a.fir 0 ∷ at a.fir 1 ∷ at a.fir 2 ∷ at b.fir 0 ∷ at b.fir 1 ∷ at b.fir 2 ∷ [];
      iir = at a.iir 0 ∷ at a.iir 1 ∷ at a.iir 2 ∷ at b.iir 0 ∷ at b.iir 1 ∷ at b.iir 2 ∷ [];
    }

-- its sum, as that of a filter whose first lines are these
unfoldable pub line_sum : Taps → Lines → ℤ → ℤ
line_sum taps l value = section_sum taps (record { fir = l.fir; iir = l.iir }) 0 value

-- the lines moved on by an input and its sum
unfoldable pub moved : Lines → ℤ → ℤ → Lines
moved l value sum = record { fir = value ∷ at l.fir 0 ∷ at l.fir 1 ∷ []; iir = trunc32 (shift sum (pos 1)) ∷ at l.iir 0 ∷ at l.iir 1 ∷ [] }

-- an output before it is saturated
unfoldable pub wide : ℤ → ℤ
wide sum = shr_z (rounded_sum sum (pos 2)) 65536

-- what comes of a block so, and the lines after it
unfoldable pub through : Taps → Lines → List ℤ → List ℤ
through taps l [] = []
through taps l (x ∷ xs) = wide (line_sum taps l x) ∷ through taps (moved l x (line_sum taps l x)) xs

unfoldable pub left : Taps → Lines → List ℤ → Lines
left taps l [] = l
left taps l (x ∷ xs) = left taps (moved l x (line_sum taps l x)) xs

pub length_through : (taps : Taps) (l : Lines) (xs : List ℤ) → length (through taps l xs) ≡ length xs
unfolding through
length_through taps l [] = refl
length_through taps l (x ∷ xs) = ap suc (length_through taps (moved l x (line_sum taps l x)) xs)

-- saturated to 16 bits, and whether that changes a value
unfoldable pub short : ℤ → ℤ
short v = clamp (negsuc 32767) (pos 32767) v

unfoldable pub beyond : ℤ → Bool
beyond v = lt_z v (negsuc 32767) || lt_z (pos 32767) v

-- a value scaled, rounded, and not yet saturated; and the final scaling so
unfoldable pub scaled_by : ℤ → ℤ → ℤ
scaled_by value scale = shr_z (value *ℤ scale +ℤ pos 8192) 16384

abbrev pub fifths : ℤ → ℤ
fifths value = scaled_by value (pos 19661)

-- whether saturation changes a value on a sample's way, by what the sections made of it, and at how many samples
unfoldable pub clips_at : ℤ → ℤ → Bool
clips_at first second = beyond first || beyond (fifths (short second))

unfoldable pub clipped_by : List ℤ → List ℤ → ℕ
clipped_by first second = count (λ n. clips_at (get_or first n (pos 0)) (get_or second n (pos 0))) (length first)

-- ---- saturation may come after the low half is left out
same_test : (n : ℕ) → ltb 2147483647 n ≡ ltb 32767 (n / 65536)
same_test n = go (ltb 2147483647 n) (ltb 32767 (n / 65536)) refl refl
  where
    go : (s t : Bool) → ltb 2147483647 n ≡ s → ltb 32767 (n / 65536) ≡ t → s ≡ t
    go true true e f = refl
    go false false e f = refl
    go true false e f = absurd (omega (arith, ltb-true 2147483647 n e, ltb-false 32767 (n / 65536) f))
    go false true e f = absurd (omega (arith, ltb-false 2147483647 n e, ltb-true 32767 (n / 65536) f))

inside : (n : ℕ) → ltb 32767 (n / 65536) ≡ false → n / 65536 < 32768
inside n e = omega (arith, ltb-false 32767 (n / 65536) e)

pub hi_short : (z : ℤ) → hi (sat z) ≡ short (shr_z z 65536)
unfolding short clamp wrap signed residue
hi_short (pos n) = ap (λ (b : Bool). hi (cond b (pos 2147483647) (pos n))) (same_test n) ∙ go (ltb 32767 (n / 65536)) refl
  where
    go : (b : Bool) → ltb 32767 (n / 65536) ≡ b → hi (cond b (pos 2147483647) (pos n)) ≡ cond b (pos 32767) (pos (n / 65536))
    go true e = refl
    go false e = wrap_id 15 (pos (n / 65536)) (inside n e)
hi_short (negsuc n) = ap (λ (b : Bool). hi (cond b (negsuc 2147483647) (negsuc n))) (same_test n) ∙ go (ltb 32767 (n / 65536)) refl
  where
    go : (b : Bool) → ltb 32767 (n / 65536) ≡ b → hi (cond b (negsuc 2147483647) (negsuc n)) ≡ cond b (negsuc 32767) (negsuc (n / 65536))
    go true e = refl
    go false e = wrap_id 15 (negsuc (n / 65536)) (inside n e)

pub clips_wide : (z : ℤ) → clips z ≡ beyond (shr_z z 65536)
unfolding beyond
clips_wide (pos n) = clips_beyond (pos n) ∙ same_test n
clips_wide (negsuc n) = clips_beyond (negsuc n) ∙ ap (λ (b : Bool). b || false) (same_test n)

pub abs_short : (v : ℤ) → nat_abs (short v) ≤ 32768
unfolding short clamp
abs_short (pos n) = go (ltb 32767 n) refl
  where
    go : (b : Bool) → ltb 32767 n ≡ b → nat_abs (cond b (pos 32767) (pos n)) ≤ 32768
    go true e = omega arith
    go false e = omega (arith, ltb-false 32767 n e)
abs_short (negsuc n) = go (ltb 32767 n) refl
  where
    go : (b : Bool) → ltb 32767 n ≡ b → nat_abs (cond b (negsuc 32767) (negsuc n)) ≤ 32768
    go true e = omega arith
    go false e = omega (arith, ltb-false 32767 n e)

pub beyond_end : (v : ℤ) → beyond v ≡ true → at_end (short v) ≡ true
unfolding beyond short clamp at_end
beyond_end v h = go (lt_z v (negsuc 32767)) (lt_z (pos 32767) v) h
  where
    go : (s t : Bool) → (s || t) ≡ true → at_end (cond s (negsuc 32767) (cond t (pos 32767) v)) ≡ true
    go true t e = refl
    go false true e = refl
    go false false e = absurd (false≢true e)

-- ---- the scaling in 32 bits
quarter : (u : ℤ) → shr_z (u *ℤ pos 4) 65536 ≡ shr_z u 16384
quarter (pos n) = ap pos (omega arith)
quarter (negsuc n) =
    let e : suc n * 4 ≡ suc (n * 4 + 3) = omega arith in
    let d : (n * 4 + 3) / 65536 ≡ n / 16384 = omega arith in
    ap (λ (k : ℕ). shr_z (neg_ℤ (pos k)) 65536) e ∙ ap negsuc d

pub fifths_is : (value : ℤ) → nat_abs value ≤ 32768 → shr_z (rounded_sum (acc (mul value (pos 19661))) (pos 1)) 65536 ≡ fifths value
unfolding scaled_by rounded_sum mul
fifths_is value h =
    let p : ℤ = value *ℤ pos 19661 in
    let m : nat_abs (p *ℤ pos 2) ≤ 1288503296 = abs_mul_by value (pos 19661) 32768 19661 h (omega arith) in
    let d : nat_abs (p *ℤ pos 2 *ℤ pos 2) ≤ 2577006592 = abs_mul_le (p *ℤ pos 2) (pos 2) 1288503296 2 m (omega arith) in
    let k : shift (acc (p *ℤ pos 2)) (pos 1) ≡ p *ℤ pos 4 =
    ap (λ (z : ℤ). shift z (pos 1)) (acc_fits (p *ℤ pos 2) (omega arith)) ∙ shift_up (p *ℤ pos 2) 1 (omega arith) ∙ acc_fits (p *ℤ pos 2 *ℤ pos 2) (omega arith) ∙ mul_mul p (pos 2) (pos 2) in
    let f : nat_abs (p *ℤ pos 4) ≤ 2577006592 = omega (arith, ap nat_abs (mul_mul p (pos 2) (pos 2))) in
    ap (λ (z : ℤ). shr_z (fold z (pos 32768)) 65536) k
    ∙ ap (λ (z : ℤ). shr_z z 65536) (fold_fits (p *ℤ pos 4) (pos 32768) (omega arith) ∙ sym (mul_add p (pos 8192) (pos 4)))
    ∙ quarter (p +ℤ pos 8192)

pub scaled_is : (value : ℤ) → nat_abs value ≤ 32768 → scaled value ≡ short (fifths value)
unfolding scaled
scaled_is value h = rounded_sum_lem (acc (mul value (pos 19661))) (pos 1) ∙ hi_short _ ∙ ap short (fifths_is value h)

-- ---- none is changed where no sample is at an end behind the first section, and none at last
neither : (a b : Bool) → (a ≡ true → ⊥) → (b ≡ true → ⊥) → (a || b) ≡ true → ⊥
neither true b f g h = f refl
neither false b f g h = g h

pub get_or_short : (l : List ℤ) (k : ℕ) → at (map short l) k ≡ short (at l k)
unfolding short clamp
get_or_short l k = get_or-map short l k (pos 0)

get_or_scaled : (l : List ℤ) (k : ℕ) → at (map scaled l) k ≡ scaled (at l k)
unfolding scaled rounded fold clamp mul shift wrap signed residue
get_or_scaled l k = get_or-map scaled l k (pos 0)

pub none_clipped : (first second : List ℤ) → length second ≡ length first → ends (map short first) ≡ 0 → ends (map scaled (map short second)) ≡ 0 → clipped_by first second ≡ 0
unfolding clipped_by clips_at
none_clipped first second l e g = count_nowhere _ (length first) nowhere
  where
    nowhere : (k : ℕ) → k < length first → clips_at (at first k) (at second k) ≡ true → ⊥
    nowhere k p t =
        neither (beyond (at first k)) (beyond (fifths (short (at second k))))
        (λ a. no_end (map short first) e k (omega (arith, length-map first short)) (ap at_end (get_or_short first k) ∙ beyond_end (at first k) a))
        (λ a. no_end (map scaled (map short second)) g k (omega (arith, length-map second short, length-map (map short second) scaled)) (ap at_end (get_or_scaled (map short second) k ∙ ap scaled (get_or_short second k) ∙ scaled_is (short (at second k)) (abs_short (at second k))) ∙ beyond_end (fifths (short (at second k))) a))
        t

-- ---- what comes of a block behind the first section, and behind the second
module _ (words : List ℤ) where
  abbrev pub firsts : OutputFilter → List ℤ → List ℤ
  firsts f xs = through (taps_of words) (lines_of f 0) xs

  abbrev pub seconds : OutputFilter → List ℤ → List ℤ
  seconds f xs = through (taps_of words) (lines_of f 3) (map short (firsts f xs))

-- ---- a loop through a section, at place n
module _ (taps : Taps) where
  pub left_more : (l : Lines) (xs : List ℤ) (n : ℕ) → n < length xs → left taps l (take (suc n) xs) ≡ moved (left taps l (take n xs)) (at xs n) (line_sum taps (left taps l (take n xs)) (at xs n))
  unfolding left
  left_more l [] n h = absurd (omega arith)
  left_more l (x ∷ xs) zero h = refl
  left_more l (x ∷ xs) (suc n) h = left_more (moved l x (line_sum taps l x)) xs n (omega arith)

  pub through_at : (l : Lines) (xs : List ℤ) (n : ℕ) → n < length xs → wide (line_sum taps (left taps l (take n xs)) (at xs n)) ≡ at (through taps l xs) n
  unfolding left through
  through_at l [] n h = absurd (omega arith)
  through_at l (x ∷ xs) zero h = refl
  through_at l (x ∷ xs) (suc n) h = through_at (moved l x (line_sum taps l x)) xs n (omega arith)
