-- What a local holds: bits, which are read as a number of its width. These laws take the reading away where the number fits, and say what the machine's shifts, masks and casts give.
use Rattle.std.specs.Prelude.{◌≡◌, refl, Bool, true, false, cond, ℕ, suc, ◌+◌, ◌-◌, ◌*◌, ◌/◌, ◌%◌, ◌^◌, ◌≤◌, ◌<◌, T, ltb, leb, ℤ, pos, negsuc, nat_abs, ◌*ℤ◌}
use Rattle.std.proofs.Common.{sym, ap, ◌∙◌, add-mul, mul-div_cancel, mul-lt-mul_of_pos_right, mul-le-mul_right, mul_comm, add-zero, arith, leb→le, pow_pos, pow-add, pow_mono, lt-ltb, le-ltb, ltb-true, ltb-false}
use Rattle.std.proofs.Math.Nat.{mul-mod_left}
use Rattle.std.proofs.Math.Arith.{digits_div, mod-mul}
use Rattle.std.proofs.Math.Pow.{mod-mod-pow}
use Rattle.std.specs.Int.Signed.{mag, shr_z, mag_shr}
use Rattle.std.specs.Int.Bits.{bit_and}
use Rattle.std.proofs.lemmas.Nat.{and_mask}
use Rattle.std.specs.Int.{Width, w64}
use Rattle.std.proofs.Math.Facts.{sfits_widen}
use mir.Val.{SFits, Fits, to_z, of_z, sel, bits, hbits}
use mir.ValLaws.{pow-bits, to_z-of_z, to_z_pos, sfits_le, to_z-Fits, of_z-to_z, Fits-wrap}
use Rattle.fixed.specs.Fixed.{residue, signed, wrap}
use Rattle.fixed.specs.Abs.{mag≤abs, abs≤mag}
use Rattle.fixed.specs.Residue.{compl_digits, residue_up, residue_mul, mod_times}
use Rattle.fixed.specs.Wrap.{residue_lt, wrap_cong, mag_wrap}

-- ---- the range of a width
pub sfits_abs : (w : Width) (z : ℤ) → nat_abs z < 2 ^ hbits w → SFits w z
sfits_abs w z p = record { sfits = omega (arith, mag≤abs z) }

pub abs_sfits : (w : Width) (z : ℤ) → SFits w z → nat_abs z ≤ 2 ^ hbits w
abs_sfits w z p = omega (arith, abs≤mag z, p.sfits)

-- what is wrapped to k bits fits a width of k bits or more: `wrap-sfits w64 40 z tt`
pub wrap_sfits : (w : Width) (k : ℕ) (z : ℤ) → T (leb k (bits w)) → SFits w (wrap k z)
wrap_sfits w k z t = record { sfits = omega (arith, mag_wrap k z, pow_mono (leb→le k (bits w) t), pow-bits w) }

-- ---- what the machine reads back
-- of a call's result: `back w64 c.f.result c.f.ok`
pub back : (w : Width) (z : ℤ) → mag z < 2 ^ hbits w → to_z w (of_z w z) ≡ z
back w z p = to_z-of_z w z (record { sfits = p })

-- of a cast to v at an x that is no wider: the cast's need, and what is read of it after
pub widens_to : (v : Width) {w : Width} {z : ℤ} → T (leb (hbits w) (hbits v)) → SFits w z → SFits v (to_z w (of_z w z))
widens_to v {w} {z} t f = rw (to_z-of_z w z f) (sfits_widen t f)

pub widened_to : (v : Width) {w : Width} {z : ℤ} → T (leb (hbits w) (hbits v)) → SFits w z → to_z v (of_z v (to_z w (of_z w z))) ≡ z
widened_to v {w} {z} t f = rw (to_z-of_z w z f) (to_z-of_z v z (sfits_widen t f))

-- `x as i64`
pub widens : {w : Width} {z : ℤ} → T (leb (hbits w) 63) → SFits w z → SFits w64 (to_z w (of_z w z))
widens t f = widens_to w64 t f

pub widened : {w : Width} {z : ℤ} → T (leb (hbits w) 63) → SFits w z → to_z w64 (of_z w64 (to_z w (of_z w z))) ≡ z
widened t f = widened_to w64 t f

-- of a test for 0
pub zero_bits : (z : ℤ) → SFits w64 z → of_z w64 z ≡ 0 → nat_abs z ≡ 0
zero_bits (pos n) f e = e
zero_bits (negsuc n) f e = omega (arith, e, f.sfits)

pub bits_zero : (z : ℤ) → nat_abs z ≡ 0 → of_z w64 z ≡ 0
bits_zero (pos n) e = e
bits_zero (negsuc n) e = omega (arith, e)

-- ---- the machine
-- the bits of z, modulo a divisor of 2 ^ 64
pub bits_residue : (M P : ℕ) (z : ℤ) → P * M ≡ 2 ^ 64 → 0 < M → SFits w64 z → of_z w64 z % M ≡ residue M z
unfolding residue
bits_residue M P (pos n) e p f = refl
bits_residue M P (negsuc n) e p f = sym (residue_up M P (negsuc n) p (omega (arith, e, f.sfits)) ∙ ap (λ (x : ℕ). (x - suc n) % M) e)

-- r, below M, moved up to the top of 64 bits and down again with its sign
up_down : (M P r : ℕ) → M * P ≡ 2 ^ 64 → 0 < P → r < M → shr_z (to_z w64 (r * P)) P ≡ signed M r
unfolding signed
up_down M P r e p h = go (ltb (r + r) M) refl
  where
    dbl : (r + r) * P ≡ r * P + r * P
    dbl = add-mul r r P

    go : (t : Bool) → ltb (r + r) M ≡ t → shr_z (to_z w64 (r * P)) P ≡ cond t (pos r) (negsuc (M - suc r))
    go true t =
        let a : (r + r) * P < M * P = mul-lt-mul_of_pos_right (ltb-true (r + r) M t) p in
        let b : r * P < 2 ^ 63 = omega (arith, a, e, dbl) in
        ap (λ (x : Bool). shr_z (sel x (pos (r * P)) (negsuc (2 ^ 64 - suc (r * P)))) P) (lt-ltb (r * P) (2 ^ 63) b) ∙ ap pos (mul-div_cancel r p)
    go false t =
        let a : M * P ≤ (r + r) * P = mul-le-mul_right P (ltb-false (r + r) M t) in
        let b : 2 ^ 63 ≤ r * P = omega (arith, a, e, dbl) in
        let g : 2 ^ 64 - suc (r * P) ≡ (M - suc r) * P + (P - suc 0) =
        ap (λ (x : ℕ). x - suc (r * P)) (sym e) ∙ ap (λ (x : ℕ). M * P - suc x) (sym (add-zero (r * P))) ∙ compl_digits M P r 0 h p in
        ap (λ (x : Bool). shr_z (sel x (pos (r * P)) (negsuc (2 ^ 64 - suc (r * P)))) P) (le-ltb (r * P) (2 ^ 63) b)
        ∙ ap (λ (x : ℕ). negsuc (x / P)) g ∙ ap negsuc (digits_div (M - suc r) (omega arith))

-- `(v << s) >> s` is v wrapped to 64 - s bits: `shl-shr 40 24 v refl fits`
pub shl_shr : (k s : ℕ) (z : ℤ) → k + s ≡ 64 → SFits w64 z → shr_z (to_z w64 ((of_z w64 z * 2 ^ s) % 2 ^ 64)) (2 ^ s) ≡ wrap k z
unfolding wrap
shl_shr k s z e f =
    let M : ℕ = 2 ^ k in
    let P : ℕ = 2 ^ s in
    let m : M * P ≡ 2 ^ 64 = sym (pow-add 2 k s) ∙ ap (λ (x : ℕ). 2 ^ x) e in
    let g : (of_z w64 z * P) % 2 ^ 64 ≡ residue M z * P =
    ap (λ (x : ℕ). (of_z w64 z * P) % x) (sym m)
    ∙ mod-mul (of_z w64 z * P) (pow_pos k) (pow_pos s)
    ∙ ap (λ (x : ℕ). (x % M) * P + (of_z w64 z * P) % P) (mul-div_cancel (of_z w64 z) (pow_pos s))
    ∙ ap (λ (x : ℕ). (of_z w64 z % M) * P + x) (mul-mod_left (of_z w64 z) P)
    ∙ add-zero _
    ∙ ap (λ (x : ℕ). x * P) (bits_residue M P z (mul_comm P M ∙ m) (pow_pos k) f) in
    ap (λ (x : ℕ). shr_z (to_z w64 x) P) g ∙ up_down M P (residue M z) m (pow_pos s) (residue_lt M z (pow_pos k))

-- `v & (2 ^ k - 1)` is v modulo 2 ^ k: `mask 16 48 v refl fits`
pub mask : (k s : ℕ) (z : ℤ) → k + s ≡ 64 → k < 64 → SFits w64 z → to_z w64 (bit_and (of_z w64 z) (2 ^ k - 1)) ≡ pos (residue (2 ^ k) z)
mask k s z e l f =
    let M : ℕ = 2 ^ k in
    let m : 2 ^ s * M ≡ 2 ^ 64 = mul_comm (2 ^ s) M ∙ sym (pow-add 2 k s) ∙ ap (λ (x : ℕ). 2 ^ x) e in
    let a : bit_and (of_z w64 z) (2 ^ k - 1) ≡ residue M z = and_mask (of_z w64 z) k ∙ bits_residue M (2 ^ s) z m (pow_pos k) f in
    let b : residue M z < 2 ^ 63 = omega (arith, residue_lt M z (pow_pos k), pow_mono {i = k} {j = 63} (omega arith)) in
    ap (to_z w64) a ∙ to_z_pos w64 (residue M z) b

-- a shift to the right keeps the range
pub shr_sfits : (w : Width) (z : ℤ) (m : ℕ) → SFits w z → SFits w (shr_z z m)
shr_sfits w z m f = sfits_le (mag_shr z m) f

-- `v << s` drops bits above 64, which a wrap to 64 or fewer does not see: `shl-wrap 40 24 (2 ^ s) v refl fits`
pub shl_wrap : (k s m : ℕ) (v : ℤ) → s + k ≡ 64 → SFits w64 v → wrap k (to_z w64 ((of_z w64 v * m) % 2 ^ 64)) ≡ wrap k (v *ℤ pos m)
shl_wrap k s m v e f =
    let M : ℕ = 2 ^ k in
    let n : ℕ = of_z w64 v * m in
    let b : ℕ = n % 2 ^ 64 in
    let g : 2 ^ s * M ≡ 2 ^ 64 = sym (pow-add 2 s k) ∙ ap (λ (x : ℕ). 2 ^ x) e in
    let h : Fits w64 b = Fits-wrap w64 n in
    wrap_cong k (to_z w64 b) (v *ℤ pos m)
    (sym (bits_residue M (2 ^ s) (to_z w64 b) g (pow_pos k) (to_z-Fits w64 b h))
    ∙ ap (λ (x : ℕ). x % M) (of_z-to_z w64 b h)
    ∙ ap (λ (x : ℕ). n % x % M) (ap (λ (x : ℕ). 2 ^ x) (sym e))
    ∙ mod-mod-pow n s k
    ∙ mod_times (of_z w64 v) m M
    ∙ ap (λ (x : ℕ). (x * m) % M) (bits_residue M (2 ^ s) v g (pow_pos k) f)
    ∙ sym (residue_mul M m v (pow_pos k)))
