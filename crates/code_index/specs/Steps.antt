-- The definitions' plain numbers are what the accumulator's steps give: its wraps to 40 bits are not seen in its high half.
use Rattle.std.proofs.Common.{arith, ap, sym, ◌∙◌}
use Rattle.std.specs.Prelude.{◌≡◌, true, false, List, ℕ, suc, ◌+◌, ◌*◌, ◌≤◌, ℤ, pos, negsuc, neg_ℤ, nat_abs, ◌+ℤ◌, ◌-ℤ◌, ◌*ℤ◌}
use Rattle.std.specs.Int.Signed.{shr_z}
use Rattle.fixed.specs.Fixed.{wrap, acc, hi, shift}
use Rattle.fixed.specs.Abs.{abs_mul_le, mag≤abs, mag_shr_is}
use Rattle.fixed.specs.Integers.{mul_add, neg_mul, mul_mul}
use Rattle.fixed.specs.Halves.{hi_acc, hi_high}
use Rattle.fixed.specs.Shifts.{shift_down}
use Rattle.fixed.specs.Wrap.{wrap_id, acc_fits}
use Rattle.code_index.specs.Codebook.{radix, inverse, quotient, remainder, sum}

-- ---- a pulse's sum: `hi(acc(x + y))` and `hi(acc(x - y))` of numbers in the high half
pub sum_added : (x y : ℤ) → hi (acc (x *ℤ pos 65536 +ℤ y *ℤ pos 65536)) ≡ sum true x y
unfolding sum
sum_added x y = ap (λ (z : ℤ). hi (acc z)) (sym (mul_add x y (pos 65536))) ∙ hi_high (x +ℤ y)

sub_mul : (x y : ℤ) → (x -ℤ y) *ℤ pos 65536 ≡ x *ℤ pos 65536 -ℤ y *ℤ pos 65536
sub_mul x y = mul_add x (neg_ℤ y) (pos 65536) ∙ ap (λ (z : ℤ). x *ℤ pos 65536 +ℤ z) (neg_mul y (pos 65536))

pub sum_subtracted : (x y : ℤ) → hi (acc (x *ℤ pos 65536 -ℤ y *ℤ pos 65536)) ≡ sum false x y
unfolding sum
sum_subtracted x y = ap (λ (z : ℤ). hi (acc z)) (sym (sub_mul x y)) ∙ hi_high (x -ℤ y)

-- ---- a digit: `hi(acc(value - ((quotient * radix * 2) << 15)))`, which may pass 40 bits, value being x in the high half
pub remainder_steps : (words : List ℤ) (class k : ℕ) (x : ℤ) → hi (acc (x *ℤ pos 65536 -ℤ quotient words class k x *ℤ radix words class k *ℤ pos 2 *ℤ pos 32768)) ≡ remainder words class k x
unfolding remainder
remainder_steps words class k x =
    let y : ℤ = quotient words class k x *ℤ radix words class k in
    ap (λ (z : ℤ). hi (acc (x *ℤ pos 65536 -ℤ z))) (mul_mul y (pos 2) (pos 32768)) ∙ ap (λ (z : ℤ). hi (acc z)) (sym (sub_mul x y)) ∙ hi_high (x -ℤ y)

-- and its quotient: `hi(shift(acc(x * inverse * 2), -2))`, of 16-bit numbers
halved : (z : ℤ) → shr_z (shr_z (z *ℤ pos 2) 4) 65536 ≡ shr_z z 131072
halved (pos n) = ap pos (omega arith)
halved (negsuc n) =
    let e : suc n * 2 ≡ suc (n * 2 + 1) = omega arith in
    ap (λ (m : ℕ). shr_z (shr_z (neg_ℤ (pos m)) 4) 65536) e ∙ ap negsuc (omega arith)

pub quotient_steps : (words : List ℤ) (class k : ℕ) (x : ℤ) → nat_abs x ≤ 32768 → nat_abs (inverse words class k) ≤ 32768 → hi (shift (acc (x *ℤ inverse words class k *ℤ pos 2)) (negsuc 1)) ≡ quotient words class k x
unfolding quotient
quotient_steps words class k x p q =
    let y : ℤ = x *ℤ inverse words class k in
    let b : nat_abs y ≤ 1073741824 = abs_mul_le x (inverse words class k) 32768 32768 p q in
    let c : nat_abs (y *ℤ pos 2) ≤ 2147483648 = abs_mul_le y (pos 2) 1073741824 2 b (omega arith) in
    ap (λ (z : ℤ). hi (shift z (negsuc 1))) (acc_fits (y *ℤ pos 2) (omega arith))
    ∙ ap (λ (z : ℤ). hi z) (shift_down (y *ℤ pos 2) 1 (omega arith))
    ∙ hi_acc (shr_z (y *ℤ pos 2) 4)
    ∙ ap (wrap 16) (halved y)
    ∙ wrap_id 15 (shr_z y 131072) (omega (arith, mag_shr_is y 131072, mag≤abs y))
