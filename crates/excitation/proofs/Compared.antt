-- Two numbers are compared by the sign of their difference, at a common factor, in the accumulator: what that says where nothing wraps.
use native.Mathlib.Omega.{arith}
use mathlib.Core.Bool.{Bool, true, false, cond}
use mathlib.Core.Path.{◌≡◌, refl, ap, sym, ◌∙◌}
use Prim.Native.Nat.{ℕ, zero, suc, ◌+◌, ◌-◌, ◌*◌, ◌^◌, ◌≤◌, ◌<◌}
use native.Mathlib.Nat.{suc-mul}
use lib.Dec.{ltb}
use lib.IntN.{ℤ, pos, negsuc, neg_ℤ, nat_abs, sub_ℕ, ◌+ℤ◌, ◌*ℤ◌}
use lib.Signed.{lt_z}
use borrow.Author.Tests.{lt-ltb, le-ltb, ltb-true, ltb-false}
use mir.Syntax.{w16, w64}
use mir.Val.{SFits}
use Rattle.fixed.specs.Fixed.{acc, fold, shift}
use Rattle.fixed.specs.Abs.{abs_mul_le, abs_neg}
use Rattle.fixed.specs.Integers.{mul_add, neg_mul, mul_mul}
use Rattle.fixed.specs.Machine.{abs_sfits, sfits_abs}
use Rattle.fixed.specs.Wrap.{REACH, acc_fits}
use Rattle.fixed.specs.Sums.{fold_fits}
use Rattle.fixed.specs.Shifts.{shift_up}

ltb_same : (a b c d : ℕ) → (a < b → c < d) → (b ≤ a → d ≤ c) → ltb a b ≡ ltb c d
ltb_same a b c d p q = go (ltb a b) refl
  where
    go : (t : Bool) → ltb a b ≡ t → t ≡ ltb c d
    go true e = sym (lt-ltb c d (p (ltb-true a b e)))
    go false e = sym (le-ltb c d (q (ltb-false a b e)))

above_sub : (a b : ℕ) → lt_z (pos 0) (sub_ℕ a b) ≡ ltb b a
above_sub a b = go (ltb a b) refl
  where
    go : (t : Bool) → ltb a b ≡ t → lt_z (pos 0) (cond t (negsuc (b - suc a)) (pos (a - b))) ≡ ltb b a
    go true e = let h = ltb-true a b e in sym (le-ltb b a (omega arith))
    go false e = ltb_same 0 (a - b) b a (λ p. omega arith) (λ p. omega arith)

-- the difference is above 0
above : (a b : ℤ) → lt_z (pos 0) (a +ℤ neg_ℤ b) ≡ lt_z b a
above (pos a) (pos zero) = ltb_same 0 (a + 0) 0 a (λ p. omega arith) (λ p. omega arith)
above (pos a) (pos (suc b)) = above_sub a (suc b)
above (pos a) (negsuc b) = lt-ltb 0 (a + suc b) (omega arith)
above (negsuc a) (pos zero) = above_sub 0 (suc a) ∙ le-ltb (suc a) 0 (omega arith)
above (negsuc a) (pos (suc b)) = refl
above (negsuc a) (negsuc b) = above_sub (suc b) (suc a) ∙ ltb_same (suc a) (suc b) a b (λ p. omega arith) (λ p. omega arith)

-- a factor keeps the sign
mul_pos : (n c : ℕ) → 0 < c → 0 < suc n * c
mul_pos n c p = let e = suc-mul n c in omega arith

positive : (z : ℤ) (c : ℕ) → 0 < c → lt_z (pos 0) (z *ℤ pos c) ≡ lt_z (pos 0) z
positive (pos zero) c p = le-ltb 0 (0 * c) (omega arith)
positive (pos (suc n)) c p = lt-ltb 0 (suc n * c) (mul_pos n c p) ∙ sym (lt-ltb 0 (suc n) (omega arith))
positive (negsuc n) c p = go (suc n * c)
  where
    go : (m : ℕ) → lt_z (pos 0) (neg_ℤ (pos m)) ≡ false
    go zero = refl
    go (suc m) = refl

-- so x is above y
pub compared : (a b x y : ℤ) (c : ℕ) → 0 < c → a ≡ x *ℤ pos c → b ≡ y *ℤ pos c → nat_abs a + nat_abs b < REACH → lt_z (pos 0) (fold a (neg_ℤ b)) ≡ lt_z y x
compared a b x y c p e f h =
    ap (lt_z (pos 0))
    (fold_fits a (neg_ℤ b) (omega (arith, abs_neg b)) ∙ ap (λ (z : ℤ). z +ℤ neg_ℤ b) e ∙ ap (λ (z : ℤ). x *ℤ pos c +ℤ z) (ap neg_ℤ f ∙ sym (neg_mul y (pos c)))
    ∙ sym (mul_add x (neg_ℤ y) (pos c)))
    ∙ positive (x +ℤ neg_ℤ y) c p ∙ above x y

-- ---- a word at a factor m
module _ (x : ℤ) (m : ℕ) (f : SFits w16 x) where
  pub word_le : nat_abs (x *ℤ pos m) ≤ 32768 * m
  word_le = abs_mul_le x (pos m) 32768 m (abs_sfits w16 x f) (omega arith)

  pub word_fits : m ≤ 65536 → SFits w64 (x *ℤ pos m)
  word_fits h = sfits_abs w64 _ (omega (arith, word_le))

  pub minus_fits : m ≤ 65536 → SFits w64 (neg_ℤ (x *ℤ pos m))
  minus_fits h = sfits_abs w64 _ (omega (arith, word_le, abs_neg (x *ℤ pos m)))

  -- and shifted: at both factors
  pub word_shift : (s : ℕ) → s < 64 → 32768 * (m * 2 ^ s) < REACH → shift (x *ℤ pos m) (pos s) ≡ x *ℤ pos (m * 2 ^ s)
  word_shift s p h =
      shift_up (x *ℤ pos m) s p ∙ ap (λ (z : ℤ). acc z) (mul_mul x (pos m) (pos (2 ^ s)))
      ∙ acc_fits (x *ℤ pos (m * 2 ^ s)) (omega (arith, abs_mul_le x (pos (m * 2 ^ s)) 32768 (m * 2 ^ s) (abs_sfits w16 x f) (omega arith)))
