-- `exp` is the shift that normalises: an accumulator but 0, shifted by it, has its highest digit at bit 30 (`normalises`). So the reciprocal of all but 0 divides by 16384 or more,
-- and no step of it wraps (`reciprocal-plain`); that of 0 does.
use Rattle.std.proofs.Common.{arith, ap, sym, ◌∙◌, lt_of_not-le, not-le_of_lt, le_trans, mul-le-mul_right, mul-lt-mul_of_pos_right, suc-mul, mul_right_comm, pow-suc, le-div_iff_mul-le, div-lt_iff_lt-mul, pow_pos, pow-add, pow_mono, ltb-true, ltb-false}
use Rattle.std.specs.Prelude.{Bool, true, false, cond, ◌≡◌, refl, ℕ, zero, suc, ◌+◌, ◌-◌, ◌*◌, ◌/◌, ◌^◌, ◌≤◌, ◌<◌, min, ltb, ℤ, pos, negsuc, neg_ℤ, nat_abs, ◌+ℤ◌, ◌*ℤ◌}
use Rattle.std.proofs.lemmas.Nat.{leading_top}
use Rattle.std.proofs.Math.IntN.{sub_ℕ}
use Rattle.std.specs.Int.Signed.{mag, shr_z, lt_z}
use Rattle.sequence.specs.Repeated.{repeated}
use Rattle.fixed.specs.Fixed.{residue, signed, wrap, clamp, acc, fold, sat, hi, shift, exp, restoring_step, restoring_divide, size_reciprocal, signed_reciprocal, normalised_reciprocal}
use Rattle.fixed.specs.declared.Reciprocal.TheVariants.{Ordinary}
use Rattle.fixed.specs.Reciprocals.{zero_exactly}
use Rattle.fixed.specs.Integers.{sub_is, sub_above, sub_below}
use Rattle.fixed.specs.Abs.{abs_neg, mag≤abs, mag_shr_is}
use Rattle.fixed.specs.Wrap.{REACH, wrap_id, acc_fits}
use Rattle.fixed.specs.Shifts.{shift_up, shift_down, exp_top, exp_of_minus_one}
use Rattle.fixed.specs.Division.{HALF_NUMERATOR, reciprocal_bits}

-- a bound from below and one from above are multiplied by k, where z is
mag_minus : (x : ℕ) → mag (neg_ℤ (pos x)) ≡ x - 1
mag_minus zero = refl
mag_minus (suc x) = omega arith

up_from : (z : ℤ) (m k : ℕ) → 0 < k → m ≤ mag z → m * k ≤ mag (z *ℤ pos k)
up_from (pos n) m k p h = mul-le-mul_right k h
up_from (negsuc n) m k p h = omega (arith, mul-le-mul_right k h, suc-mul n k, mag_minus (suc n * k))

up_below : (z : ℤ) (m k : ℕ) → 0 < k → mag z < m → mag (z *ℤ pos k) < m * k
up_below (pos n) m k p h = mul-lt-mul_of_pos_right h p
up_below (negsuc n) m k p h = omega (arith, mul-le-mul_right k h, suc-mul n k, mag_minus (suc n * k))

-- the highest digit is at bit 30
abbrev pub Normalised : ℤ → Type 0
Normalised n = (1073741824 ≤ mag n) × (mag n < 2147483648)

-- 2 ^ t is v's highest digit
module _ (v : ℤ) (t : ℕ) (b : t < 39) (l : 2 ^ t ≤ mag v) (h : mag v < 2 ^ suc t) where
  abbrev n : ℤ
  n = shift v (exp v)

  held : acc v ≡ v
  held = wrap_id 39 v (omega (arith, pow_mono {i = suc t} {j = 39} b))

  exp_is : exp v ≡ sub_ℕ 30 t
  exp_is = exp_top v t (rw held l) (rw held h) ∙ sub_is 30 t

  up : t ≤ 30 → Normalised n
  up k =
      let s : ℕ = 30 - t in
      let e : t + s ≡ 30 = omega arith in
      let p : 2 ^ t * 2 ^ s ≡ 1073741824 = sym (pow-add 2 t s) ∙ ap (λ (x : ℕ). 2 ^ x) e in
      let q : 2 ^ suc t * 2 ^ s ≡ 2147483648 = ap (λ (x : ℕ). x * 2 ^ s) (pow-suc 2 t) ∙ mul_right_comm (2 ^ t) 2 (2 ^ s) ∙ ap (λ (x : ℕ). x * 2) p in
      let g : mag (v *ℤ pos (2 ^ s)) < 2147483648 = omega (arith, up_below v (2 ^ suc t) (2 ^ s) (pow_pos s) h) in
      let f : n ≡ v *ℤ pos (2 ^ s) = ap (shift v) (exp_is ∙ sub_above 30 t k) ∙ shift_up v s (omega arith) ∙ wrap_id 39 (v *ℤ pos (2 ^ s)) (omega arith) in
      rw f (omega (arith, up_from v (2 ^ t) (2 ^ s) (pow_pos s) l), g)

  down : 30 < t → Normalised n
  down k =
      let s : ℕ = t - 31 in
      let d : ℕ = 2 ^ suc s in
      let e : 30 + suc s ≡ t = omega arith in
      let g : 31 + suc s ≡ suc t = omega arith in
      let p : 1073741824 * d ≡ 2 ^ t = sym (pow-add 2 30 (suc s)) ∙ ap (λ (x : ℕ). 2 ^ x) e in
      let q : 2147483648 * d ≡ 2 ^ suc t = sym (pow-add 2 31 (suc s)) ∙ ap (λ (x : ℕ). 2 ^ x) g in
      let above : 1073741824 ≤ mag v / d = (le-div_iff_mul-le (pow_pos (suc s))).1 (omega arith) in
      let under : mag v / d < 2147483648 = (div-lt_iff_lt-mul (pow_pos (suc s))).1 (omega arith) in
      let f : n ≡ shr_z v d = ap (shift v) (exp_is ∙ sub_below 30 t k) ∙ shift_down v s (omega arith) ∙ wrap_id 39 (shr_z v d) (omega (arith, mag_shr_is v d)) in
      rw (f, mag_shr_is v d) (above, under)

  pub normal : Normalised n
  normal = go (ltb 30 t) refl
    where
      go : (x : Bool) → ltb 30 t ≡ x → Normalised n
      go true x = down (ltb-true 30 t x)
      go false x = up (ltb-false 30 t x)

-- an accumulator but 0 has a highest digit; -1, whose complement has none, goes to -2 ^ 31
minus_one : Normalised (shift (negsuc 0) (exp (negsuc 0)))
minus_one =
    let e : shift (negsuc 0) (exp (negsuc 0)) ≡ negsuc 2147483647 =
    ap (shift (negsuc 0)) (exp_of_minus_one (negsuc 0) (wrap_id 39 (negsuc 0) (omega arith)))
    ∙ shift_up (negsuc 0) 31 (omega arith)
    ∙ wrap_id 39 (negsuc 2147483647) (omega arith) in
    rw e (omega arith, omega arith)

digit : (v : ℤ) → 0 < mag v → mag v < REACH → Normalised (shift v (exp v))
digit v p h =
    let s = leading_top 40 (mag v) p (omega arith) in
    normal v s.0 (lt_of_not-le (λ (q : 39 ≤ s.0). not-le_of_lt h (le_trans (pow_mono {i = 39} {j = s.0} q) s.2))) s.2 s.3

pub normalises : (v : ℤ) → mag v < REACH → (v ≡ pos 0 → ⊥) → Normalised (shift v (exp v))
normalises (pos zero) h z = absurd (z refl)
normalises (pos (suc n)) h z = digit (pos (suc n)) (omega arith) h
normalises (negsuc zero) h z = minus_one
normalises (negsuc (suc n)) h z = digit (negsuc (suc n)) (omega arith) h

-- ---- the reciprocal of a normalised number: 16383 · 2 ^ 15 by the high half of its size, in the high half
sat_size : (x : ℕ) → sat (pos x) ≡ pos (min x 2147483647)
unfolding clamp
sat_size x = go (ltb 2147483647 x) refl
  where
    go : (t : Bool) → ltb 2147483647 x ≡ t → cond t (pos 2147483647) (pos x) ≡ pos (min x 2147483647)
    go true t = ap pos (omega (arith, ltb-true 2147483647 x t))
    go false t = ap pos (omega (arith, ltb-false 2147483647 x t))

abbrev pub divisor : ℤ → ℕ
divisor n = min (nat_abs n) 2147483647 / 65536

pub divisor_range : (n : ℤ) → Normalised n → (16384 ≤ divisor n) × (divisor n < 32768)
divisor_range n h = (omega (arith, mag≤abs n), omega arith)

abbrev pub plain_reciprocal : ℤ → ℤ
plain_reciprocal n = pos (HALF_NUMERATOR / divisor n * 65536)

pub reciprocal_is : (n : ℤ) → Normalised n → size_reciprocal n ≡ plain_reciprocal n
unfolding size_reciprocal
reciprocal_is n h =
    let m : ℕ = divisor n in
    let p : 16384 ≤ m = (divisor_range n h).0 in
    let q : m < 32768 = (divisor_range n h).1 in
    let g : HALF_NUMERATOR / m < 32768 = (div-lt_iff_lt-mul {k = m} (omega arith)).1 (omega arith) in
    ap (λ (z : ℤ). acc (pos (residue 65536 (restoring_divide (pos (16383 * 65536)) (shr_z z 65536) 15)) *ℤ pos 65536)) (sat_size (nat_abs n))
    ∙ ap (λ (x : ℕ). acc (pos (x * 65536))) (reciprocal_bits m p q)
    ∙ acc_fits (pos (HALF_NUMERATOR / m * 65536)) (omega arith)

-- ---- the theorem: of an accumulator but 0, no accumulator on the way to its reciprocal wraps
signed_plain : (n : ℤ) → Normalised n → signed_reciprocal n ≡ cond (lt_z (hi n) (pos 0)) (neg_ℤ (plain_reciprocal n)) (plain_reciprocal n)
unfolding signed_reciprocal
signed_plain n d =
    let r = divisor_range n d in
    let q : HALF_NUMERATOR / divisor n < 32768 = (div-lt_iff_lt-mul {k = divisor n} (omega arith)).1 (omega arith) in
    let f : acc (neg_ℤ (plain_reciprocal n)) ≡ neg_ℤ (plain_reciprocal n) = acc_fits (neg_ℤ (plain_reciprocal n)) (omega (arith, abs_neg (plain_reciprocal n))) in
    rw (reciprocal_is n d, f)

pub reciprocal_plain : (v : ℤ) → mag v < REACH → (v ≡ pos 0 → ⊥)
    → normalised_reciprocal v ≡ Ordinary (cond (lt_z (hi (shift v (exp v))) (pos 0)) (neg_ℤ (plain_reciprocal (shift v (exp v)))) (plain_reciprocal (shift v (exp v)))) (exp v +ℤ pos 1)
reciprocal_plain v h z =
    (zero_exactly v).1 (λ e. z (sym (wrap_id 39 v h) ∙ e))
    ∙ ap (λ (q : ℤ). Ordinary q (exp v +ℤ pos 1)) (signed_plain (shift v (exp v)) (normalises v h z))

-- of 0 it wraps: the tenth of the fifteen steps passes 2 ^ 39 and reads as negative, and from there on no bit of the quotient comes in
zero_wraps : (restoring_divide (pos (16383 * 65536)) (pos 0) 9 ≡ pos 549722259967) × (restoring_divide (pos (16383 * 65536)) (pos 0) 10 ≡ negsuc 67107840)
unfolding restoring_divide repeated restoring_step fold wrap signed residue
zero_wraps = (refl, refl)
