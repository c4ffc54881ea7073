-- Bounds of integers, in ℕ: the size |z| (`nat_abs`) of a sum, a difference, a product and a quotient. `omega` reads these, with |z| as an unknown.
-- `mag z` is n both of n and of -(n + 1), for where the last unit matters: z is in a width's signed range exactly where `mag z` is below half the width's power.
use Rattle.std.specs.Prelude.{◌≡◌, refl, Bool, true, false, cond, ℕ, zero, suc, ◌+◌, ◌-◌, ◌*◌, ◌/◌, ◌≤◌, ◌<◌, T, ltb, ℤ, pos, negsuc, neg_ℤ, nat_abs, ◌+ℤ◌, ◌-ℤ◌, ◌*ℤ◌}
use Rattle.std.proofs.Common.{subst, le_refl, mul-le-mul, mul_comm, div-le_self, div-lt_iff_lt-mul, arith, ltb-true}
use Rattle.std.proofs.Math.Nat.{div-le_of_le-mul}
use Rattle.std.proofs.Math.IntN.{sub_ℕ, +ℤ_idl}
use Rattle.std.specs.Int.Signed.{mag, shr_z, lt_z}

abs_subℕ : (a b : ℕ) → nat_abs (sub_ℕ a b) ≤ a + b
abs_subℕ a b = go (ltb a b) refl
  where
    go : (t : Bool) → ltb a b ≡ t → nat_abs (cond t (negsuc (b - suc a)) (pos (a - b))) ≤ a + b
    go true e = omega (arith, ltb-true a b e)
    go false e = omega arith

pub abs_add : (a b : ℤ) → nat_abs (a +ℤ b) ≤ nat_abs a + nat_abs b
abs_add (pos a) (pos b) = le_refl (a + b)
abs_add (pos a) (negsuc b) = abs_subℕ a (suc b)
abs_add (negsuc a) (pos b) = omega (arith, abs_subℕ b (suc a))
abs_add (negsuc a) (negsuc b) = omega arith

pub abs_neg : (a : ℤ) → nat_abs (neg_ℤ a) ≡ nat_abs a
abs_neg (pos zero) = refl
abs_neg (pos (suc n)) = refl
abs_neg (negsuc n) = refl

pub abs_sub : (a b : ℤ) → nat_abs (a -ℤ b) ≤ nat_abs a + nat_abs b
abs_sub a b = rw (← abs_neg b) (abs_add a (neg_ℤ b))

pub abs_mul : (a b : ℤ) → nat_abs (a *ℤ b) ≡ nat_abs a * nat_abs b
abs_mul (pos a) (pos b) = refl
abs_mul (pos a) (negsuc b) = abs_neg (pos (a * suc b))
abs_mul (negsuc a) (pos b) = abs_neg (pos (suc a * b))
abs_mul (negsuc a) (negsuc b) = refl

-- the product of two numbers that are at most m and n
pub abs_mul_le : (a b : ℤ) (m n : ℕ) → nat_abs a ≤ m → nat_abs b ≤ n → nat_abs (a *ℤ b) ≤ m * n
abs_mul_le a b m n p q = rw abs_mul (mul-le-mul p q)

pub abs_shr : (a : ℤ) (m : ℕ) → nat_abs (shr_z a m) ≤ nat_abs a
abs_shr (pos a) m = div-le_self a m
abs_shr (negsuc a) m = omega (arith, div-le_self a m)

pub mag≤abs : (z : ℤ) → mag z ≤ nat_abs z
mag≤abs (pos n) = le_refl n
mag≤abs (negsuc n) = omega arith

pub abs≤mag : (z : ℤ) → nat_abs z ≤ mag z + 1
abs≤mag (pos n) = omega arith
abs≤mag (negsuc n) = omega arith

-- a number that is at most m · n, by m, is at most n
pub abs_shr_by : (z : ℤ) (m n : ℕ) → 0 < m → nat_abs z ≤ m * n → nat_abs (shr_z z m) ≤ n
abs_shr_by (pos a) m n p h = div-le_of_le-mul m h
abs_shr_by (negsuc a) m n p h = (div-lt_iff_lt-mul p).1 (rw (mul_comm n m) h)

-- ---- by the sign, from a test
pub nonneg_is : (z : ℤ) → lt_z z (pos 0) ≡ false → z ≡ pos (mag z)
nonneg_is (pos n) t = refl
nonneg_is (negsuc n) t = absurd (subst T t tt)

pub neg_is : (z : ℤ) → lt_z z (pos 0) ≡ true → z ≡ negsuc (mag z)
neg_is (pos n) t = let h : n < 0 = ltb-true n 0 t in absurd (omega arith)
neg_is (negsuc n) t = refl

-- ---- by the magnitude, which a shift to the right divides
pub mag_shr_is : (z : ℤ) (m : ℕ) → mag (shr_z z m) ≡ mag z / m
mag_shr_is (pos n) m = refl
mag_shr_is (negsuc n) m = refl

-- `-z` is computed as 0 - z
pub minus_is : (z : ℤ) → pos 0 -ℤ z ≡ neg_ℤ z
minus_is z = +ℤ_idl (neg_ℤ z)
