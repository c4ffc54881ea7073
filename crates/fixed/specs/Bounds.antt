-- Bounds of what the operations give.
use Rattle.std.specs.Prelude.{◌≡◌, refl, Bool, true, false, cond, ℕ, ◌*◌, ◌≤◌, ◌<◌, ℤ, pos, negsuc, nat_abs, ◌*ℤ◌, ◌-ℤ◌, ◌+ℤ◌}
use Rattle.std.proofs.Common.{arith, ltb-false, SFits}
use Rattle.std.specs.Int.Signed.{mag, shr_z, le_z, lt_z}
use Rattle.std.specs.Int.{w16}
use Rattle.sequence.specs.Repeated.{repeated_keeps}
use Rattle.fixed.specs.Fixed.{clamp, acc, fold, sat, trunc32, low, hi, mul, shift, restoring_step, restoring_divide, size_reciprocal}
use Rattle.fixed.specs.Abs.{abs_mul_le}
use Rattle.fixed.specs.Wrap.{REACH, abs_wrap}
use Rattle.fixed.specs.Machine.{abs_sfits}

-- an accumulator is at most 2 ^ 39
pub abs_acc : (z : ℤ) → nat_abs (acc z) ≤ REACH
abs_acc z = omega (arith, abs_wrap 40 z)

pub abs_fold : (s t : ℤ) → nat_abs (fold s t) ≤ REACH
unfolding fold
abs_fold s t = abs_acc (s +ℤ t)

-- and so is what is shifted
pub abs_shift : (v s : ℤ) → nat_abs (shift v s) ≤ REACH
unfolding shift
abs_shift v (pos s) = abs_acc _
abs_shift v (negsuc s) = abs_acc _

-- the halves, and what 32 bits keep
pub abs_low : (z : ℤ) → nat_abs (low z) ≤ 32768
abs_low z = omega (arith, abs_wrap 16 z)

pub abs_hi : (z : ℤ) → nat_abs (hi z) ≤ 32768
abs_hi z = abs_low (shr_z z 65536)

pub abs_trunc32 : (z : ℤ) → nat_abs (trunc32 z) ≤ 2147483648
abs_trunc32 z = omega (arith, abs_wrap 32 z)

-- a fractional product, by bounds of its factors; of 16-bit ones it is at most 2 ^ 31
pub abs_mul_by : (x y : ℤ) (m n : ℕ) → nat_abs x ≤ m → nat_abs y ≤ n → nat_abs (mul x y) ≤ m * n * 2
unfolding mul
abs_mul_by x y m n p q = abs_mul_le (x *ℤ y) (pos 2) (m * n) 2 (abs_mul_le x y m n p q) (omega arith)

pub abs_mul16 : (x y : ℤ) → SFits w16 x → SFits w16 y → nat_abs (mul x y) ≤ 2147483648
abs_mul16 x y f g = abs_mul_by x y 32768 32768 (abs_sfits w16 x f) (abs_sfits w16 y g)

-- what is saturated is of 32 bits
pub mag_sat : (z : ℤ) → mag (sat z) < 2147483648
unfolding clamp
mag_sat z = go (lt_z z (negsuc 2147483647)) (lt_z (pos 2147483647) z) refl refl
  where
    inside : (z : ℤ) → lt_z z (negsuc 2147483647) ≡ false → lt_z (pos 2147483647) z ≡ false → mag z < 2147483648
    inside (pos n) e f = omega (arith, ltb-false 2147483647 n f)
    inside (negsuc n) e f = omega (arith, ltb-false 2147483647 n e)

    go : (s t : Bool) → lt_z z (negsuc 2147483647) ≡ s → lt_z (pos 2147483647) z ≡ t → mag (cond s (negsuc 2147483647) (cond t (pos 2147483647) z)) < 2147483648
    go true t e f = omega arith
    go false true e f = omega arith
    go false false e f = inside z e f

pub abs_restoring_step : (num den : ℤ) → nat_abs (restoring_step num den) ≤ REACH
unfolding restoring_step
abs_restoring_step num den = go (le_z (pos 0) (num -ℤ den *ℤ pos 32768))
  where
    alu : ℤ
    alu = num -ℤ den *ℤ pos 32768

    go : (t : Bool) → nat_abs (cond t (fold (alu *ℤ pos 2) (pos 1)) (acc (num *ℤ pos 2))) ≤ REACH
    go true = abs_fold _ _
    go false = abs_acc _

pub abs_restoring_divide : (num den : ℤ) (n : ℕ) → nat_abs num ≤ REACH → nat_abs (restoring_divide num den n) ≤ REACH
unfolding restoring_divide
abs_restoring_divide num den n h = repeated_keeps (λ k x. restoring_step x den) (λ (x : ℤ). nat_abs x ≤ REACH) (λ k x p. abs_restoring_step x den) n num h

pub abs_size_reciprocal : (n : ℤ) → nat_abs (size_reciprocal n) ≤ REACH
unfolding size_reciprocal
abs_size_reciprocal n = abs_acc _
