-- Residues of sums and of products. A number z is moved up by a multiple A of the modulus, to the natural number `up A z`.
use Rattle.std.proofs.Common.{arith, ap, sym, ◌∙◌, add_comm, mod-lt, add-mul, suc-mul, mul_comm, mul_assoc, mul-one, mul-le-mul_left, div-add-mod', div-lt_iff_lt-mul, mul_right_comm, le_of_eq, le_trans, mul-le-mul_right, ltb-true, ltb-false}
use Rattle.std.specs.Prelude.{Bool, true, false, cond, ◌≡◌, refl, ℕ, zero, suc, ◌+◌, ◌-◌, ◌*◌, ◌/◌, ◌%◌, ◌≤◌, ◌<◌, ltb, ℤ, pos, negsuc, neg_ℤ, nat_abs, ◌+ℤ◌, ◌*ℤ◌}
use Rattle.std.proofs.Math.Nat.{add-mul-mod_self_right, add-mod, mul-sub}
use Rattle.std.proofs.Math.Arith.{digits_mod}
use Rattle.std.proofs.Math.IntN.{sub_ℕ}
use Rattle.fixed.specs.Fixed.{residue}
use Rattle.fixed.specs.Abs.{abs_add, abs_mul}

-- the complement of a number by its digits
pub compl_digits : (Q M q r : ℕ) → q < Q → r < M → Q * M - suc (q * M + r) ≡ (Q - suc q) * M + (M - suc r)
compl_digits Q M q r p h =
    let d : ℕ = Q - suc q in
    let e : Q ≡ suc q + d = omega arith in
    let f : Q * M ≡ (q * M + M) + d * M = ap (λ (x : ℕ). x * M) e ∙ add-mul (suc q) d M ∙ ap (λ (x : ℕ). x + d * M) (suc-mul q M) in
    omega (arith, f)

-- z + A, for an A that is large enough
abbrev pub up : ℕ → ℤ → ℕ
up A (pos n) = n + A
up A (negsuc n) = A - suc n

pub residue_up : (M K : ℕ) (z : ℤ) → 0 < M → nat_abs z ≤ K * M → residue M z ≡ up (K * M) z % M
unfolding residue
residue_up M K (pos n) p h = sym (add-mul-mod_self_right n K M)
residue_up M K (negsuc n) p h =
    let s : n / M * M + n % M ≡ n = div-add-mod' n M in
    let l : n / M < K = (div-lt_iff_lt-mul p).1 h in
    let m : n % M < M = mod-lt n p in
    sym (ap (λ (x : ℕ). (K * M - suc x) % M) (sym s) ∙ ap (λ (x : ℕ). x % M) (compl_digits K M (n / M) (n % M) l m) ∙ digits_mod (K - suc (n / M)) (omega arith))

-- ---- of a sum
up_subℕ : (A B a b : ℕ) → a ≤ A → b ≤ B → up (A + B) (sub_ℕ a b) ≡ (a + A) + (B - b)
up_subℕ A B a b p q = go (ltb a b) refl
  where
    go : (t : Bool) → ltb a b ≡ t → up (A + B) (cond t (negsuc (b - suc a)) (pos (a - b))) ≡ (a + A) + (B - b)
    go true e = omega (arith, ltb-true a b e)
    go false e = omega (arith, ltb-false a b e)

up_add : (A B : ℕ) (a b : ℤ) → nat_abs a ≤ A → nat_abs b ≤ B → up (A + B) (a +ℤ b) ≡ up A a + up B b
up_add A B (pos a) (pos b) p q = omega arith
up_add A B (pos a) (negsuc b) p q = up_subℕ A B a (suc b) p q
up_add A B (negsuc a) (pos b) p q = ap (λ (x : ℕ). up x (sub_ℕ b (suc a))) (add_comm A B) ∙ up_subℕ B A b (suc a) q p ∙ add_comm (b + B) (A - suc a)
up_add A B (negsuc a) (negsuc b) p q = omega arith

pub enough : (M n : ℕ) → 0 < M → n ≤ n * M
enough M n p = le_trans (le_of_eq (sym (mul-one n))) (mul-le-mul_left n p)

pub residue_add : (M : ℕ) (a b : ℤ) → 0 < M → residue M (a +ℤ b) ≡ (residue M a + residue M b) % M
residue_add M a b p =
    let K : ℕ = nat_abs a in
    let L : ℕ = nat_abs b in
    let d : (K + L) * M ≡ K * M + L * M = add-mul K L M in
    let e : nat_abs (a +ℤ b) ≤ (K + L) * M = omega (arith, abs_add a b, d, enough M K p, enough M L p) in
    residue_up M (K + L) (a +ℤ b) p e
    ∙ ap (λ (x : ℕ). up x (a +ℤ b) % M) d
    ∙ ap (λ (x : ℕ). x % M) (up_add (K * M) (L * M) a b (enough M K p) (enough M L p))
    ∙ add-mod (up (K * M) a) (up (L * M) b) M
    ∙ ap (λ (x : ℕ). (x + up (L * M) b % M) % M) (sym (residue_up M K a p (enough M K p)))
    ∙ ap (λ (x : ℕ). (residue M a + x) % M) (sym (residue_up M L b p (enough M L p)))

-- ---- of a product by a natural number
up_neg : (A k : ℕ) → up A (neg_ℤ (pos k)) ≡ A - k
up_neg A zero = omega arith
up_neg A (suc k) = refl

up_mul : (A m : ℕ) (a : ℤ) → nat_abs a ≤ A → up (A * m) (a *ℤ pos m) ≡ up A a * m
up_mul A m (pos n) p = sym (add-mul n A m)
up_mul A m (negsuc n) p = up_neg (A * m) (suc n * m) ∙ (ap (λ (x : ℕ). x - suc n * m) (mul_comm A m) ∙ ap (λ (x : ℕ). m * A - x) (mul_comm (suc n) m) ∙ sym (mul-sub m A (suc n)) ∙ mul_comm m (A - suc n))

pub mod_times : (x m M : ℕ) → (x * m) % M ≡ (x % M * m) % M
mod_times x m M =
    let d : x * m ≡ x % M * m + x / M * m * M =
    ap (λ (y : ℕ). y * m) (sym (div-add-mod' x M)) ∙ add-mul (x / M * M) (x % M) m ∙ add_comm (x / M * M * m) (x % M * m)
    ∙ ap (λ (y : ℕ). x % M * m + y) (mul_right_comm (x / M) M m) in
    ap (λ (y : ℕ). y % M) d ∙ add-mul-mod_self_right (x % M * m) (x / M * m) M

pub residue_mul : (M m : ℕ) (a : ℤ) → 0 < M → residue M (a *ℤ pos m) ≡ (residue M a * m) % M
residue_mul M m a p =
    let K : ℕ = nat_abs a in
    let h : K ≤ K * M = enough M K p in
    let d : (K * m) * M ≡ (K * M) * m = mul_assoc K m M ∙ ap (λ (x : ℕ). K * x) (mul_comm m M) ∙ sym (mul_assoc K M m) in
    let e : nat_abs (a *ℤ pos m) ≤ (K * m) * M = rw (abs_mul a (pos m), d) (mul-le-mul_right m h) in
    residue_up M (K * m) (a *ℤ pos m) p e
    ∙ ap (λ (x : ℕ). up x (a *ℤ pos m) % M) d
    ∙ ap (λ (x : ℕ). x % M) (up_mul (K * M) m a h)
    ∙ mod_times (up (K * M) a) m M
    ∙ ap (λ (x : ℕ). (x * m) % M) (sym (residue_up M K a p h))
