-- `shift` by less than 64 is the plain shift, and `exp` is 30 less the place of the highest digit that is no copy of the sign.
use Rattle.std.proofs.Common.{arith, sym, subst, ◌∙◌, mod-eq_of_lt, pow-suc, lt_of_not-le, not-le_of_lt, le_trans, le_of_suc-le-suc, eqb→eq, leb→le, pow_pos, pow_mono, ne_eqb}
use Rattle.std.specs.Prelude.{Bool, true, false, cond, ◌≡◌, refl, ℕ, suc, ◌+◌, ◌-◌, ◌*◌, ◌^◌, ◌≤◌, ◌<◌, T, eqb, ℤ, pos, negsuc, nat_abs, ◌*ℤ◌, ◌-ℤ◌, ◌≤ℤ◌}
use Rattle.std.specs.Int.Count.{count_leading_zeros, leading_unique}
use Rattle.std.proofs.lemmas.Nat.{leading_le, leading_length}
use Rattle.std.proofs.Math.IntN.{sub_ℕ}
use Rattle.std.specs.Int.Signed.{mag, shr_z, le_z_yes}
use Rattle.fixed.specs.Fixed.{acc, shift, exp}
use Rattle.fixed.specs.Abs.{mag≤abs}
use Rattle.fixed.specs.Integers.{sub_is, sub_same, sub_le}
use Rattle.fixed.specs.Wrap.{REACH, mag_wrap}

pub shift_up : (v : ℤ) (s : ℕ) → s < 64 → shift v (pos s) ≡ acc (v *ℤ pos (2 ^ s))
unfolding shift
shift_up v s h = rw (mod-eq_of_lt h)

pub shift_down : (v : ℤ) (s : ℕ) → suc s < 64 → shift v (negsuc s) ≡ acc (shr_z v (2 ^ suc s))
unfolding shift
shift_down v s h = rw (mod-eq_of_lt h)

-- ---- the count of redundant sign bits, less the 8 that 40 bits have more than 32
pub mag_acc : (v : ℤ) → mag (acc v) < REACH
mag_acc v = omega (arith, mag_wrap 40 v)

-- 2 ^ t is the highest digit of v, or of its complement where v is negative
pub exp_top : (v : ℤ) (t : ℕ) → 2 ^ t ≤ mag (acc v) → mag (acc v) < 2 ^ suc t → exp v ≡ pos 30 -ℤ pos t
unfolding exp
exp_top v t l h =
    let a : ℕ = mag (acc v) in
    let k : t < 39 = lt_of_not-le (λ (p : 39 ≤ t). not-le_of_lt (mag_acc v) (le_trans (pow_mono {i = 39} {j = t} p) l)) in
    let e : 39 - t ≡ count_leading_zeros 40 a = leading_unique 40 a (39 - t) (suc t) (omega arith) h (omega (arith, pow-suc 2 t)) in
    let z : eqb (nat_abs (acc v)) 0 ≡ false = ne_eqb (nat_abs (acc v)) 0 (λ n. not-le_of_lt (pow_pos t) (omega (arith, mag≤abs (acc v)))) in
    simp (z, sym e) (sub_same (39 - t) 9 30 t (omega arith) ∙ sym (sub_is 30 t))

-- so a bound of the size bounds it: from 2 ^ a on it is at most 30 - a, and below 2 ^ b, but for 0, at least 31 - b
pub exp_at_most : (v : ℤ) (a : ℕ) → 2 ^ a ≤ mag (acc v) → exp v ≤ℤ (pos 30 -ℤ pos a)
unfolding exp
exp_at_most v a l =
    let s = leading_length 40 (mag (acc v)) (omega (arith, mag_acc v)) in
    let k : a < s.0 = lt_of_not-le (λ (p : s.0 ≤ a). not-le_of_lt s.2 (le_trans (pow_mono {i = s.0} {j = a} p) l)) in
    let z : eqb (nat_abs (acc v)) 0 ≡ false = ne_eqb (nat_abs (acc v)) 0 (λ n. not-le_of_lt (pow_pos a) (omega (arith, mag≤abs (acc v)))) in
    simp (z, sub_is 30 a) (sub_le (count_leading_zeros 40 (mag (acc v))) 9 30 a (omega (arith, s.1)))

pub exp_at_least : (v : ℤ) (b : ℕ) → (nat_abs (acc v) ≡ 0 → 31 ≤ b) → mag (acc v) < 2 ^ b → (pos 31 -ℤ pos b) ≤ℤ exp v
unfolding exp
exp_at_least v b n h = rw (sub_is 31 b) (go (eqb (nat_abs (acc v)) 0) refl)
  where
    s : (m : ℕ) × (count_leading_zeros 40 (mag (acc v)) + m ≡ 40) × (mag (acc v) < 2 ^ m) × (2 ^ m ≤ 2 * mag (acc v) + 1)
    s = leading_length 40 (mag (acc v)) (omega (arith, mag_acc v))

    short : s.0 ≤ b
    short = le_of_suc-le-suc (lt_of_not-le (λ (p : suc b ≤ s.0). not-le_of_lt h (omega (arith, pow_mono {i = suc b} {j = s.0} p, s.3, pow-suc 2 b))))

    go : (t : Bool) → eqb (nat_abs (acc v)) 0 ≡ t → sub_ℕ 31 b ≤ℤ cond t (pos 0) (sub_ℕ (count_leading_zeros 40 (mag (acc v))) 9)
    go true t = sub_le 31 b 0 0 (omega (arith, n (eqb→eq (nat_abs (acc v)) 0 (subst T (sym t) tt))))
    go false t = sub_le 31 b (count_leading_zeros 40 (mag (acc v))) 9 (omega (arith, s.1, short))

-- 0 of 0, 31 of -1
pub exp_of_zero : (v : ℤ) → acc v ≡ pos 0 → exp v ≡ pos 0
unfolding exp
exp_of_zero v e = simp e

pub exp_of_minus_one : (v : ℤ) → acc v ≡ negsuc 0 → exp v ≡ pos 31
unfolding exp
exp_of_minus_one v e = simp e

-- so it is from -8 to 31
pub exp_range : (v : ℤ) → (negsuc 7 ≤ℤ exp v) × (exp v ≤ℤ pos 31)
unfolding exp
exp_range v = (exp_at_least v 39 (λ e. omega arith) (mag_acc v), top (eqb (nat_abs (acc v)) 0))
  where
    top : (b : Bool) → cond b (pos 0) (sub_ℕ (count_leading_zeros 40 (mag (acc v))) 9) ≤ℤ pos 31
    top true = le_z_yes tt
    top false = sub_le (count_leading_zeros 40 (mag (acc v))) 9 31 0 (omega (arith, leading_le 40 (mag (acc v))))

within : (z : ℤ) → negsuc 7 ≤ℤ z → z ≤ℤ pos 31 → nat_abs z ≤ 31
within (pos n) p q = leb→le n 31 q.le
within (negsuc n) p q = omega (arith, leb→le n 7 p.le)

pub abs_exp : (v : ℤ) → nat_abs (exp v) ≤ 31
abs_exp v = within (exp v) (exp_range v).0 (exp_range v).1
