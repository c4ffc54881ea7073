-- Restoring division by steps gives the quotient: after k of 16 steps the quotient by d · 2 ^ (16 - k) stands in the low k bits, and the remainder above them.
use native.Mathlib.Omega.{arith}
use Rattle.std.specs.Prelude.{Bool, true, false, cond, ◌≡◌, refl, ltb, ℤ, ◌*ℤ◌}
use Rattle.std.proofs.Math.Path.{ap}
use Rattle.std.proofs.Common.{sym, ◌∙◌, add-mul, suc-mul, mod-lt, mod-eq_of_lt, mul-le-mul_right, div-add-mod', div-lt_iff_lt-mul, mul-pos, add_comm, pow_pos, pow_mono, pow-add, ltb-true, ltb-false}
use Prim.Native.Nat.{ℕ, zero, suc, ◌+◌, ◌-◌, ◌*◌, ◌/◌, ◌%◌, ◌^◌, ◌≤◌, ◌<◌}
use Rattle.std.proofs.Math.Nat.{mul_comm, mul_assoc, pow-suc, div-eq_of_lt, mul_right_comm, add-mul-mod_self_right}
use Rattle.std.proofs.Math.Arith.{digits_div, digits_mod}
use Rattle.std.proofs.Math.Dec.{leb-zero}
use Rattle.std.proofs.Math.IntN.{pos}
use Rattle.std.specs.Int.Signed.{le_z}
use Rattle.sequence.specs.Repeated.{repeated}
use Rattle.fixed.specs.Fixed.{residue, acc, fold, restoring_step, restoring_divide}
use Rattle.fixed.specs.Integers.{sub_is, sub_below, sub_above}
use Rattle.fixed.specs.Wrap.{acc_fits}

-- ---- one step, of a number that is not negative
picked : ℕ → ℤ → ℤ
picked x z = cond (le_z (pos 0) z) (fold (z *ℤ pos 2) (pos 1)) (acc (pos x *ℤ pos 2))

step_keeps : (x d : ℕ) → x < d * 32768 → restoring_step (pos x) (pos d) ≡ acc (pos (x * 2))
unfolding restoring_step picked
step_keeps x d h = ap (picked x) (sub_is x (d * 32768) ∙ sub_below x (d * 32768) h)

step_takes : (x y d : ℕ) → x ≡ y + d * 32768 → restoring_step (pos x) (pos d) ≡ acc (pos (y * 2 + 1))
unfolding restoring_step picked fold
step_takes x y d e =
    ap (picked x) (sub_is x (d * 32768) ∙ sub_above x (d * 32768) (omega arith)) ∙ simp (leb-zero (x - d * 32768))
    (ap (λ (z : ℕ). acc (pos (z * 2 + 1))) (omega arith))

-- n by e · 2, with its remainder P times, gives n by e, with its remainder twice P times
step_is : (n e d P : ℕ) → 0 < e → e * P ≡ d * 32768 → n < P * (e * 2) → d < 32768 → P ≤ 32768 →
    restoring_step (pos (n % (e * 2) * P + n / (e * 2))) (pos d) ≡ pos (n % e * (P * 2) + n / e)
step_is n e d P p w l b c = go (ltb r e) refl
  where
    r : ℕ
    r = n % (e * 2)

    q : ℕ
    q = n / (e * 2)

    whole : q * (e * 2) + r ≡ n
    whole = div-add-mod' n (e * 2)

    r_lt : r < e * 2
    r_lt = mod-lt n (omega arith)

    q_lt : q < P
    q_lt = (div-lt_iff_lt-mul {k = e * 2} {x = n} {y = P} (omega arith)).1 l

    -- n by e, from how it goes into e
    by : (m s : ℕ) → s < e → m * e + s ≡ n → pos (s * (P * 2) + m) ≡ pos (n % e * (P * 2) + n / e)
    by m s h f =
        let u : n % e ≡ s = ap (λ (x : ℕ). x % e) (sym f) ∙ digits_mod m h in
        let v : n / e ≡ m = ap (λ (x : ℕ). x / e) (sym f) ∙ digits_div m h in
        rw (u, v)

    twice : q * 2 * e ≡ q * (e * 2)
    twice = mul_assoc q 2 e ∙ ap (λ (x : ℕ). q * x) (mul_comm 2 e)

    go : (t : Bool) → ltb r e ≡ t → restoring_step (pos (r * P + q)) (pos d) ≡ pos (n % e * (P * 2) + n / e)
    go true t =
        let h : r < e = ltb-true r e t in
        let g : suc r * P ≤ e * P = mul-le-mul_right P h in
        let k : suc r * P ≡ r * P + P = suc-mul r P in
        let f : r * (P * 2) ≡ r * P * 2 = sym (mul_assoc r P 2) in
        step_keeps (r * P + q) d (omega (arith, q_lt)) ∙ acc_fits (pos ((r * P + q) * 2)) (omega (arith, q_lt)) ∙ ap pos (omega arith) ∙ by (q * 2) r h (omega (arith, twice, whole))
    go false t =
        let s : ℕ = r - e in
        let h : e ≤ r = ltb-false r e t in
        let j : e + s ≡ r = omega arith in
        let a : r * P ≡ e * P + s * P = ap (λ (x : ℕ). x * P) (sym j) ∙ add-mul e s P in
        let g : s * P ≤ e * P = mul-le-mul_right P (omega (arith, r_lt)) in
        let f : s * (P * 2) ≡ s * P * 2 = sym (mul_assoc s P 2) in
        let k : suc (q * 2) * e ≡ q * 2 * e + e = suc-mul (q * 2) e in
        step_takes (r * P + q) (s * P + q) d (omega arith) ∙ acc_fits (pos ((s * P + q) * 2 + 1)) (omega (arith, q_lt)) ∙ ap pos (omega arith) ∙ by (suc (q * 2)) s (omega (arith, r_lt)) (omega (arith, twice, whole))

-- what stands at bit 16 and above is not seen in the low 16 bits
below_sixteen : (x y : ℕ) → (x * 65536 + y) % 65536 ≡ y % 65536
below_sixteen x y = ap (λ (z : ℕ). z % 65536) (add_comm (x * 65536) y) ∙ add-mul-mod_self_right y x 65536

module _ (n d : ℕ) (p : 0 < d) (b : d < 32768) (h : n < d * 65536) where
  pub divide_is : (k : ℕ) → k ≤ 16 → restoring_divide (pos n) (pos d) k ≡ pos (n % (d * 2 ^ (16 - k)) * 2 ^ k + n / (d * 2 ^ (16 - k)))
  unfolding restoring_divide repeated
  divide_is zero l = ap pos (sym (simp (mod-eq_of_lt h, div-eq_of_lt h) (omega arith)))
  divide_is (suc k) l =
      let e : ℕ = d * 2 ^ (16 - suc k) in
      let P : ℕ = 2 ^ k in
      let j : 16 - k ≡ suc (16 - suc k) = omega arith in
      let u : e * 2 ≡ d * 2 ^ (16 - k) = mul_assoc d (2 ^ (16 - suc k)) 2 ∙ ap (λ (x : ℕ). d * x) (sym (ap (λ (x : ℕ). 2 ^ x) j ∙ pow-suc 2 (16 - suc k))) in
      let f : 16 - suc k + k ≡ 15 = omega arith in
      let w : e * P ≡ d * 32768 = mul_assoc d (2 ^ (16 - suc k)) P ∙ ap (λ (x : ℕ). d * x) (sym (pow-add 2 (16 - suc k) k) ∙ ap (λ (x : ℕ). 2 ^ x) f) in
      let v : P * (e * 2) ≡ e * P * 2 = mul_comm P (e * 2) ∙ mul_right_comm e 2 P in
      ap (λ (z : ℤ). restoring_step z (pos d)) (divide_is k (omega arith) ∙ ap (λ (m : ℕ). pos (n % m * P + n / m)) (sym u))
      ∙ step_is n e d P (mul-pos p (pow_pos (16 - suc k))) w (omega arith) b (pow_mono {i = k} {j = 15} (omega arith))
      ∙ ap (λ (x : ℕ). pos (n % e * x + n / e)) (sym (pow-suc 2 k))

-- what the reciprocal divides, 16383 in the high half, and half of it
abbrev NUMERATOR : ℕ
NUMERATOR = 1073676288

abbrev pub HALF_NUMERATOR : ℕ
HALF_NUMERATOR = 536838144

-- the reciprocal's fifteen steps, by a normalised size m: their low 16 bits are 16383 · 2 ^ 15 / m
pub reciprocal_bits : (m : ℕ) → 16384 ≤ m → m < 32768 → residue 65536 (restoring_divide (pos NUMERATOR) (pos m) 15) ≡ HALF_NUMERATOR / m
unfolding residue
reciprocal_bits m l h =
    let p : 0 < m = omega arith in
    let g : HALF_NUMERATOR / m < 32768 = (div-lt_iff_lt-mul p).1 (omega arith) in
    ap (residue 65536) (divide_is NUMERATOR m p h (omega arith) 15 (omega arith))
    ∙ ap (λ (x : ℕ). x % 65536) (halved m p)
    ∙ below_sixteen (HALF_NUMERATOR % m) (HALF_NUMERATOR / m)
    ∙ mod-eq_of_lt (omega arith)
  where
    -- 16383 · 2 ^ 16 by 2 m, of which the remainder is even
    halved : (m : ℕ) → 0 < m → NUMERATOR % (m * 2) * 32768 + NUMERATOR / (m * 2) ≡ HALF_NUMERATOR % m * 65536 + HALF_NUMERATOR / m
    halved m p =
        let q : ℕ = HALF_NUMERATOR / m in
        let r : ℕ = HALF_NUMERATOR % m in
        let e : q * m + r ≡ HALF_NUMERATOR = div-add-mod' HALF_NUMERATOR m in
        let t : q * (m * 2) ≡ q * m * 2 = sym (mul_assoc q m 2) in
        let l : r < m = mod-lt HALF_NUMERATOR p in
        let f : q * (m * 2) + r * 2 ≡ NUMERATOR = omega arith in
        let u : NUMERATOR % (m * 2) ≡ r * 2 = ap (λ (x : ℕ). x % (m * 2)) (sym f) ∙ digits_mod q (omega arith) in
        let v : NUMERATOR / (m * 2) ≡ q = ap (λ (x : ℕ). x / (m * 2)) (sym f) ∙ digits_div q (omega arith) in
        simp (u, v) (omega arith)
