-- The reciprocal's exponent in the recursion: from -4 to 13 for every coefficient of 16 bits, so that its reading as a signed field of 5 bits changes nothing.
use Rattle.std.proofs.Common.{arith, ◌∙◌, le→leb}
use Rattle.std.specs.Prelude.{Bool, ◌≡◌, ℕ, zero, suc, ◌-◌, ◌*◌, ◌≤◌, ◌<◌, ℤ, neg_ℤ, ◌+ℤ◌, ◌≤ℤ◌}
use Rattle.std.proofs.Math.Bool.{true, false}
use Rattle.std.proofs.Math.Path.{refl, ap}
use Rattle.std.proofs.Math.Nat.{mul-le-mul}
use Rattle.std.proofs.Math.Dec.{ltb, eqb, leb→le}
use Rattle.std.proofs.Math.IntN.{pos, negsuc, nat_abs, sub_ℕ, suc_ℤ, +ℤ_one}
use Rattle.std.specs.Int.Signed.{mag, le_z_yes}
use borrow.Author.Tests.{ltb-true, ltb-false, eqb-true, eqb-false}
use Rattle.fixed.specs.Fixed.{acc, fold, mul, shift, exp}
use Rattle.fixed.specs.Abs.{abs_neg}
use Rattle.fixed.specs.Integers.{sub_is, sub_above, sub_below}
use Rattle.fixed.specs.Wrap.{REACH, wrap_id, acc_fits}
use Rattle.fixed.specs.Sums.{fold_fits}
use Rattle.fixed.specs.Reciprocals.{exponent_is}
use Rattle.fixed.specs.Shifts.{shift_up, exp_at_most, exp_at_least, exp_of_zero}
use Rattle.reflection.specs.Reflection.{residual, exponent, scale}

-- ---- the residual is 2 ^ 30 - 64·k²: the accumulator does not wrap
square : (k : ℤ) → mul k k ≡ pos (nat_abs k * nat_abs k * 2)
unfolding mul
square (pos n) = refl
square (negsuc n) = refl

module _ (kv : ℤ) (h : nat_abs kv ≤ 32768) where
  abbrev a : ℕ
  a = nat_abs kv

  most : a * a ≤ 1073741824
  most = mul-le-mul h h

  pub residual_is : residual kv ≡ sub_ℕ 1073741824 (a * a * 2 * 32)
  unfolding residual
  residual_is =
      let e : shift (acc (mul kv kv)) (pos 5) ≡ pos (a * a * 2 * 32) =
      ap (λ (z : ℤ). shift (acc z) (pos 5)) (square kv)
      ∙ ap (λ (z : ℤ). shift z (pos 5)) (acc_fits (pos (a * a * 2)) (omega (arith, most)))
      ∙ shift_up (pos (a * a * 2)) 5 (omega arith)
      ∙ acc_fits (pos (a * a * 2 * 32)) (omega (arith, most)) in
      ap (λ (z : ℤ). fold (pos 1073741824) (neg_ℤ z)) e
      ∙ fold_fits (pos 1073741824) (neg_ℤ (pos (a * a * 2 * 32))) (omega (arith, most, abs_neg (pos (a * a * 2 * 32))))
      ∙ sub_is 1073741824 (a * a * 2 * 32)

-- ---- from the bounds of the residual's size
abbrev pub Small : ℤ → Type 0
Small e = (negsuc 3 ≤ℤ e) × (e ≤ℤ pos 13)

one_more : (e : ℤ) → negsuc 4 ≤ℤ e → e ≤ℤ pos 12 → Small (e +ℤ pos 1)
one_more e p q = rw (+ℤ_one e) (go e p q)
  where
    go : (e : ℤ) → negsuc 4 ≤ℤ e → e ≤ℤ pos 12 → Small (suc_ℤ e)
    go (pos n) p q = (le_z_yes tt, le_z_yes (le→leb (suc n) 13 (omega (arith, leb→le n 12 q.le))))
    go (negsuc zero) p q = (le_z_yes tt, le_z_yes tt)
    go (negsuc (suc n)) p q = (le_z_yes (le→leb n 3 (omega (arith, leb→le (suc n) 4 p.le))), le_z_yes tt)

from_size : (v : ℤ) → nat_abs v < REACH → 262144 ≤ mag v → mag v < 68719476736 → Small (exp v +ℤ pos 1)
from_size v f p q =
    let e : mag (acc v) ≡ mag v = ap mag (acc_fits v f) in
    one_more (exp v) (exp_at_least v 36 (λ n. omega arith) (omega arith)) (exp_at_most v 18 (omega arith))

module _ (kv : ℤ) (h : nat_abs kv ≤ 32768) where
  abbrev R : ℕ
  R = nat_abs kv * nat_abs kv * 2 * 32

  -- the theorem: below 4096 the residual is 64 · 8191 or more, at 4096 it is 0, and beyond it is -64 · 8193 or less, and not below -64 · (2 ^ 30 - 2 ^ 24)
  pub exponent_range : Small (exponent kv)
  unfolding exponent
  exponent_range = rw (exponent_is (residual kv)) (go (ltb (nat_abs kv) 4096) (eqb (nat_abs kv) 4096) refl refl)
    where
      go : (t u : Bool) → ltb (nat_abs kv) 4096 ≡ t → eqb (nat_abs kv) 4096 ≡ u → Small (exp (residual kv) +ℤ pos 1)
      go true u t e =
          let l : nat_abs kv ≤ 4095 = omega (arith, ltb-true (nat_abs kv) 4096 t) in
          let b : nat_abs kv * nat_abs kv ≤ 16769025 = mul-le-mul l l in
          rw (residual_is kv h, sub_above 1073741824 R (omega arith)) (from_size (pos (1073741824 - R)) (omega arith) (omega arith) (omega arith))
      go false true t e =
          let w : residual kv ≡ pos 0 = residual_is kv h ∙ ap (λ (n : ℕ). sub_ℕ 1073741824 (n * n * 2 * 32)) (eqb-true (nat_abs kv) 4096 e) in
          rw (exp_of_zero (residual kv) (ap acc w ∙ acc_fits (pos 0) (omega arith))) (le_z_yes tt, le_z_yes tt)
      go false false t e =
          let l : 4097 ≤ nat_abs kv = omega (arith, ltb-false (nat_abs kv) 4096 t, eqb-false (nat_abs kv) 4096 e) in
          let b : 16785409 ≤ nat_abs kv * nat_abs kv = mul-le-mul l l in
          let m : nat_abs kv * nat_abs kv ≤ 1073741824 = mul-le-mul h h in
          rw (residual_is kv h, sub_below 1073741824 R (omega arith)) (from_size (negsuc (R - 1073741825)) (omega arith) (omega arith) (omega arith))

  pub scale_is : scale kv ≡ exponent kv
  unfolding scale
  scale_is = wrap_id 4 (exponent kv) (within (exponent kv) exponent_range.0 exponent_range.1)
    where
      within : (z : ℤ) → negsuc 3 ≤ℤ z → z ≤ℤ pos 13 → mag z < 16
      within (pos n) p q = omega (arith, leb→le n 13 q.le)
      within (negsuc n) p q = omega (arith, leb→le n 3 p.le)
