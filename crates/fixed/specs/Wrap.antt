-- The laws of `wrap`: a wrap inside a sum, a difference or a product changes nothing of the whole's wrap; its range; and that it changes nothing where it fits.
use Rattle.std.proofs.Common.{arith, ap, sym, ◌∙◌, mod-lt, mod-eq_of_lt, pow-suc, mul_assoc, pow_pos, pow-add, lt-ltb, le-ltb, ltb-true, ltb-false}
use Rattle.std.specs.Prelude.{Bool, true, false, cond, ◌≡◌, refl, ℕ, suc, ◌+◌, ◌-◌, ◌*◌, ◌%◌, ◌^◌, ◌≤◌, ◌<◌, ltb, ℤ, pos, negsuc, nat_abs, ◌+ℤ◌, ◌*ℤ◌}
use Rattle.std.proofs.Math.Pow.{mod-mod-pow}
use Rattle.std.proofs.Math.IntN.{+ℤ_comm}
use Rattle.std.specs.Int.Signed.{mag}
use Rattle.fixed.specs.Fixed.{residue, signed, wrap, acc}
use Rattle.fixed.specs.Residue.{up, enough, residue_up, residue_add, residue_mul}
use Rattle.fixed.specs.Abs.{mag≤abs}

pub residue_lt : (M : ℕ) (z : ℤ) → 0 < M → residue M z < M
unfolding residue
residue_lt M (pos n) p = mod-lt n p
residue_lt M (negsuc n) p = omega arith

pub residue_signed : (M r : ℕ) → r < M → residue M (signed M r) ≡ r
unfolding residue signed
residue_signed M r h = go (ltb (r + r) M)
  where
    go : (t : Bool) → residue M (cond t (pos r) (negsuc (M - suc r))) ≡ r
    go true = mod-eq_of_lt h
    go false = ap (λ (x : ℕ). M - suc x) (mod-eq_of_lt (omega arith)) ∙ omega arith

pub residue_wrap : (k : ℕ) (z : ℤ) → residue (2 ^ k) (wrap k z) ≡ residue (2 ^ k) z
unfolding wrap
residue_wrap k z = residue_signed (2 ^ k) (residue (2 ^ k) z) (residue_lt (2 ^ k) z (pow_pos k))

-- two numbers of one residue have one wrap
pub wrap_cong : (k : ℕ) (a b : ℤ) → residue (2 ^ k) a ≡ residue (2 ^ k) b → wrap k a ≡ wrap k b
unfolding wrap
wrap_cong k a b e = ap (signed (2 ^ k)) e

pub wrap_wrap : (k : ℕ) (z : ℤ) → wrap k (wrap k z) ≡ wrap k z
wrap_wrap k z = wrap_cong k (wrap k z) z (residue_wrap k z)

pub wrap_add : (k : ℕ) (a b : ℤ) → wrap k (wrap k a +ℤ b) ≡ wrap k (a +ℤ b)
wrap_add k a b =
    wrap_cong k (wrap k a +ℤ b) (a +ℤ b)
    (residue_add (2 ^ k) (wrap k a) b (pow_pos k) ∙ ap (λ (x : ℕ). (x + residue (2 ^ k) b) % 2 ^ k) (residue_wrap k a) ∙ sym (residue_add (2 ^ k) a b (pow_pos k)))

pub wrap_mul : (k m : ℕ) (a : ℤ) → wrap k (wrap k a *ℤ pos m) ≡ wrap k (a *ℤ pos m)
wrap_mul k m a =
    wrap_cong k (wrap k a *ℤ pos m) (a *ℤ pos m)
    (residue_mul (2 ^ k) m (wrap k a) (pow_pos k) ∙ ap (λ (x : ℕ). (x * m) % 2 ^ k) (residue_wrap k a) ∙ sym (residue_mul (2 ^ k) m a (pow_pos k)))

pub wrap_add_right : (k : ℕ) (a b : ℤ) → wrap k (a +ℤ wrap k b) ≡ wrap k (a +ℤ b)
wrap_add_right k a b = ap (wrap k) (+ℤ_comm a (wrap k b)) ∙ wrap_add k b a ∙ ap (wrap k) (+ℤ_comm b a)

-- a wrap to more bits is not seen by one to fewer
residue_residue : (s k : ℕ) (z : ℤ) → residue (2 ^ (s + k)) z % 2 ^ k ≡ residue (2 ^ k) z
residue_residue s k z =
    let n : ℕ = nat_abs z in
    let h : n ≤ n * 2 ^ (s + k) = enough (2 ^ (s + k)) n (pow_pos (s + k)) in
    let e : n * 2 ^ (s + k) ≡ n * 2 ^ s * 2 ^ k = ap (λ (x : ℕ). n * x) (pow-add 2 s k) ∙ sym (mul_assoc n (2 ^ s) (2 ^ k)) in
    ap (λ (x : ℕ). x % 2 ^ k) (residue_up (2 ^ (s + k)) n z (pow_pos (s + k)) h)
    ∙ mod-mod-pow (up (n * 2 ^ (s + k)) z) s k
    ∙ ap (λ (x : ℕ). up x z % 2 ^ k) e
    ∙ sym (residue_up (2 ^ k) (n * 2 ^ s) z (pow_pos k) (rw e at h))

pub wrap_narrow : (s k : ℕ) (z : ℤ) → wrap k (wrap (s + k) z) ≡ wrap k z
wrap_narrow s k z =
    wrap_cong k (wrap (s + k) z) z
    (sym (residue_residue s k (wrap (s + k) z)) ∙ ap (λ (x : ℕ). x % 2 ^ k) (residue_wrap (s + k) z) ∙ residue_residue s k z)

-- ---- the range of what is wrapped
signed_range : (M r : ℕ) → r < M → mag (signed M r) + mag (signed M r) < M
unfolding signed
signed_range M r h = go (ltb (r + r) M) refl
  where
    go : (t : Bool) → ltb (r + r) M ≡ t → mag (cond t (pos r) (negsuc (M - suc r))) + mag (cond t (pos r) (negsuc (M - suc r))) < M
    go true e = ltb-true _ _ e
    go false e = omega (arith, ltb-false (r + r) M e)

signed_abs : (M r : ℕ) → r < M → nat_abs (signed M r) + nat_abs (signed M r) ≤ M
unfolding signed
signed_abs M r h = go (ltb (r + r) M) refl
  where
    go : (t : Bool) → ltb (r + r) M ≡ t → nat_abs (cond t (pos r) (negsuc (M - suc r))) + nat_abs (cond t (pos r) (negsuc (M - suc r))) ≤ M
    go true e = omega (arith, ltb-true (r + r) M e)
    go false e = omega (arith, ltb-false (r + r) M e)

-- twice mag (wrap k z) is below 2 ^ k, and twice |wrap k z| at most 2 ^ k
pub mag_wrap : (k : ℕ) (z : ℤ) → mag (wrap k z) + mag (wrap k z) < 2 ^ k
unfolding wrap
mag_wrap k z = signed_range (2 ^ k) (residue (2 ^ k) z) (residue_lt (2 ^ k) z (pow_pos k))

pub abs_wrap : (k : ℕ) (z : ℤ) → nat_abs (wrap k z) + nat_abs (wrap k z) ≤ 2 ^ k
unfolding wrap
abs_wrap k z = signed_abs (2 ^ k) (residue (2 ^ k) z) (residue_lt (2 ^ k) z (pow_pos k))

-- a number that has k bits is not changed
pub wrap_id : (h : ℕ) (z : ℤ) → mag z < 2 ^ h → wrap (suc h) z ≡ z
unfolding wrap signed residue
wrap_id h (pos n) p =
    let M : 2 ^ suc h ≡ 2 ^ h * 2 = pow-suc 2 h in
    let e : n % 2 ^ suc h ≡ n = mod-eq_of_lt (omega arith) in
    let l : ltb (n + n) (2 ^ suc h) ≡ true = lt-ltb (n + n) (2 ^ suc h) (omega arith) in
    simp (e, l)
wrap_id h (negsuc n) p =
    let M : 2 ^ suc h ≡ 2 ^ h * 2 = pow-suc 2 h in
    let N : ℕ = 2 ^ suc h in
    let e : n % 2 ^ suc h ≡ n = mod-eq_of_lt (omega arith) in
    let l : ltb ((N - suc n) + (N - suc n)) N ≡ false = le-ltb ((N - suc n) + (N - suc n)) N (omega arith) in
    let b : N - suc (N - suc n) ≡ n = omega arith in
    simp (e, l, b)

pub wrap_fits : (h : ℕ) (z : ℤ) → nat_abs z < 2 ^ h → wrap (suc h) z ≡ z
wrap_fits h z p = wrap_id h z (omega (arith, mag≤abs z))

-- an accumulator holds the numbers from -REACH to REACH - 1
abbrev pub REACH : ℕ
REACH = 549755813888

-- so no sum, difference or product of numbers that are small enough wraps in the accumulator
pub acc_fits : (z : ℤ) → nat_abs z < REACH → acc z ≡ z
acc_fits z p = wrap_fits 39 z p
