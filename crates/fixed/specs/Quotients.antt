-- `shr_z z m` is z / m, rounded down: with the residue it gives z back, and only one quotient does.
use Rattle.std.proofs.Common.{arith, ap, sym, ◌∙◌, mod-lt, div-add-mod', suc-mul, mul-lt-mul_of_pos_right}
use Rattle.std.specs.Prelude.{◌≡◌, ℕ, suc, ◌+◌, ◌-◌, ◌*◌, ◌/◌, ◌%◌, ◌<◌, ℤ, pos, negsuc, ◌+ℤ◌, ◌*ℤ◌}
use Rattle.std.proofs.Math.Arith.{digits_div}
use Rattle.std.proofs.Math.IntN.{+ℤ_assoc}
use Rattle.std.specs.Int.Signed.{shr_z}
use Rattle.fixed.specs.Fixed.{residue}
use Rattle.fixed.specs.Integers.{minus_plus, sub_below, mul_add, mul_mul}
use Rattle.fixed.specs.Wrap.{residue_lt}

pub shr_residue : (z : ℤ) (m : ℕ) → 0 < m → z ≡ shr_z z m *ℤ pos m +ℤ pos (residue m z)
unfolding residue
shr_residue (pos n) m p = ap pos (sym (div-add-mod' n m))
shr_residue (negsuc n) m p =
    let d : suc (n / m) * m ≡ n / m * m + m = suc-mul (n / m) m in
    let e : n / m * m + n % m ≡ n = div-add-mod' n m in
    let l : n % m < m = mod-lt n p in
    sym (minus_plus (suc (n / m) * m) (m - suc (n % m)) ∙ sub_below (m - suc (n % m)) (suc (n / m) * m) (omega arith) ∙ ap negsuc (omega arith))

pub shr_unique : (q : ℤ) (r m : ℕ) → r < m → shr_z (q *ℤ pos m +ℤ pos r) m ≡ q
shr_unique (pos q) r m h = ap pos (digits_div q h)
shr_unique (negsuc q) r m h =
    let d : suc q * m ≡ q * m + m = suc-mul q m in
    let e : suc q * m - suc r ≡ q * m + (m - suc r) = omega arith in
    ap (λ (z : ℤ). shr_z z m) (minus_plus (suc q * m) r ∙ sub_below r (suc q * m) (omega arith)) ∙ ap (λ (x : ℕ). negsuc (x / m)) e ∙ ap negsuc (digits_div q (omega arith))

-- a multiple of m comes out whole
pub shr_add : (a b : ℤ) (m : ℕ) → 0 < m → shr_z (a *ℤ pos m +ℤ b) m ≡ a +ℤ shr_z b m
shr_add a b m p =
    ap (λ (z : ℤ). shr_z z m) (ap (λ (z : ℤ). a *ℤ pos m +ℤ z) (shr_residue b m p) ∙ sym (+ℤ_assoc (a *ℤ pos m) (shr_z b m *ℤ pos m) (pos (residue m b))) ∙ ap (λ (z : ℤ). z +ℤ pos (residue m b)) (sym (mul_add a (shr_z b m) (pos m))))
    ∙ shr_unique (a +ℤ shr_z b m) (residue m b) m (residue_lt m b p)

-- and a common factor falls out
pub shr_scale : (z : ℤ) (m k : ℕ) → 0 < m → 0 < k → shr_z (z *ℤ pos k) (m * k) ≡ shr_z z m
shr_scale z m k p q =
    ap (λ (x : ℤ). shr_z x (m * k))
    (ap (λ (x : ℤ). x *ℤ pos k) (shr_residue z m p) ∙ mul_add (shr_z z m *ℤ pos m) (pos (residue m z)) (pos k) ∙ ap (λ (x : ℤ). x +ℤ pos (residue m z * k)) (mul_mul (shr_z z m) (pos m) (pos k)))
    ∙ shr_unique (shr_z z m) (residue m z * k) (m * k) (mul-lt-mul_of_pos_right (residue_lt m z p) q)
