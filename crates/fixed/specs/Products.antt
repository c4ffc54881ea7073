-- `mul32x16`, which is made of its first factor's halves, is one product.
use Rattle.std.proofs.Common.{arith, ap, sym, ◌∙◌, mod-lt, lt-ltb, le-ltb, ltb-true, ltb-false}
use Rattle.std.specs.Prelude.{Bool, true, false, cond, ◌≡◌, refl, ℕ, suc, ◌+◌, ◌-◌, ◌*◌, ◌/◌, ◌%◌, ◌≤◌, ◌<◌, ltb, ℤ, pos, negsuc, nat_abs, ◌+ℤ◌, ◌*ℤ◌}
use Rattle.std.proofs.lemmas.Nat.{mod-pow-add}
use Rattle.std.proofs.Math.IntN.{+ℤ_comm, *ℤ_comm}
use Rattle.std.specs.Int.Signed.{shr_z}
use Rattle.fixed.specs.Fixed.{residue, signed, wrap, fold, acc, low, hi, trunc32, mul, mul_us, mul32x16}
use Rattle.fixed.specs.Integers.{sub_below, minus_plus, mul_add, mul_mul}
use Rattle.fixed.specs.Quotients.{shr_add, shr_scale}
use Rattle.fixed.specs.Abs.{abs_mul_le, abs_shr, abs_shr_by}
use Rattle.fixed.specs.Residue.{compl_digits}
use Rattle.fixed.specs.Wrap.{residue_lt, residue_wrap, acc_fits}
use Rattle.fixed.specs.Bounds.{abs_hi, abs_trunc32}
use Rattle.fixed.specs.Sums.{fold_fits}

-- 32 bits, of which h are the high 16 and l the low 16
joined : (h l : ℕ) → h < 65536 → l < 65536 → signed 4294967296 (h * 65536 + l) ≡ signed 65536 h *ℤ pos 65536 +ℤ pos l
unfolding signed
joined h l p q = go (ltb (h + h) 65536) refl
  where
    go : (t : Bool) → ltb (h + h) 65536 ≡ t → signed 4294967296 (h * 65536 + l) ≡ cond t (pos h) (negsuc (65536 - suc h)) *ℤ pos 65536 +ℤ pos l
    go true t = simp (lt-ltb (h * 65536 + l + (h * 65536 + l)) 4294967296 (omega (arith, ltb-true (h + h) 65536 t)))
    go false t =
        simp (le-ltb (h * 65536 + l + (h * 65536 + l)) 4294967296 (omega (arith, ltb-false (h + h) 65536 t)))
        (sym (minus_plus (suc (65536 - suc h) * 65536) l ∙ sub_below l (suc (65536 - suc h) * 65536) (omega arith) ∙ ap negsuc (omega arith)))

-- the high half, with the sign, and the low half, without one
pub halves : (x : ℤ) → trunc32 x ≡ hi x *ℤ pos 65536 +ℤ pos (residue 65536 x)
unfolding wrap residue
halves (pos n) = ap (signed 4294967296) (mod-pow-add n 16 16) ∙ joined (n / 65536 % 65536) (n % 65536) (mod-lt _ (omega arith)) (mod-lt n (omega arith))
halves (negsuc n) =
    let h : ℕ = n / 65536 % 65536 in
    let l : ℕ = n % 65536 in
    ap (λ (x : ℕ). signed 4294967296 (4294967296 - suc x)) (mod-pow-add n 16 16)
    ∙ ap (signed 4294967296) (compl_digits 65536 65536 h l (mod-lt _ (omega arith)) (mod-lt n (omega arith)))
    ∙ joined (65536 - suc h) (65536 - suc l) (omega arith) (omega arith)

-- and at most 2 ^ 31, which -2 ^ 31 by -2 ^ 15 reaches
pub abs_mul32x16 : (x y : ℤ) → nat_abs y ≤ 32768 → nat_abs (mul32x16 x y) ≤ 2147483648
unfolding mul32x16
abs_mul32x16 x y q = abs_shr_by (trunc32 x *ℤ y) 32768 2147483648 (omega arith) (abs_mul_le (trunc32 x) y 2147483648 32768 (abs_trunc32 x) q)

-- by halves, as a machine of 16 bits goes: the low half's product, without a sign, moved down, and the high half's
pub by_halves : (x y : ℤ) → nat_abs y ≤ 32768 → fold (shr_z (acc (mul_us (low x) y)) 65536) (mul (hi x) y) ≡ mul32x16 x y
unfolding mul32x16 mul mul_us
by_halves x y q =
    let r : ℕ = residue 65536 x in
    let H : ℤ = hi x in
    let p : nat_abs (pos r *ℤ y) ≤ 2147483648 = abs_mul_le (pos r) y 65536 32768 (omega (arith, residue_lt 65536 x (omega arith))) q in
    let a : nat_abs (H *ℤ y *ℤ pos 2) ≤ 2147483648 = abs_mul_le (H *ℤ y) (pos 2) 1073741824 2 (abs_mul_le H y 32768 32768 (abs_hi x) q) (omega arith) in
    let low_part : shr_z (acc (pos (residue 65536 (low x)) *ℤ y *ℤ pos 2)) 65536 ≡ shr_z (pos r *ℤ y) 32768 =
    ap (λ (k : ℕ). shr_z (acc (pos k *ℤ y *ℤ pos 2)) 65536) (residue_wrap 16 x)
    ∙ ap (λ (z : ℤ). shr_z z 65536) (acc_fits (pos r *ℤ y *ℤ pos 2) (omega (arith, abs_mul_le (pos r *ℤ y) (pos 2) 2147483648 2 p (omega arith))))
    ∙ shr_scale (pos r *ℤ y) 32768 2 (omega arith) (omega arith) in
    let whole : trunc32 x *ℤ y ≡ H *ℤ y *ℤ pos 2 *ℤ pos 32768 +ℤ pos r *ℤ y =
    ap (λ (z : ℤ). z *ℤ y) (halves x) ∙ mul_add (H *ℤ pos 65536) (pos r) y
    ∙ ap (λ (z : ℤ). z +ℤ pos r *ℤ y) (mul_mul H (pos 65536) y ∙ ap (λ (z : ℤ). H *ℤ z) (*ℤ_comm (pos 65536) y) ∙ sym (mul_mul H y (pos 65536)) ∙ sym (mul_mul (H *ℤ y) (pos 2) (pos 32768))) in
    ap (λ (z : ℤ). fold z (H *ℤ y *ℤ pos 2)) low_part
    ∙ fold_fits (shr_z (pos r *ℤ y) 32768) (H *ℤ y *ℤ pos 2) (omega (arith, p, a, abs_shr (pos r *ℤ y) 32768))
    ∙ +ℤ_comm (shr_z (pos r *ℤ y) 32768) (H *ℤ y *ℤ pos 2)
    ∙ sym (ap (λ (z : ℤ). shr_z z 32768) whole ∙ shr_add (H *ℤ y *ℤ pos 2) (pos r *ℤ y) 32768 (omega arith))
