-- Laws of the integers' differences and products, beyond the library's.
use Rattle.std.proofs.Common.{arith, ap, sym, ◌∙◌, le→leb, lt-ltb, le-ltb, ltb-true, ltb-false}
use Rattle.std.specs.Prelude.{Bool, true, false, cond, ◌≡◌, refl, ℕ, zero, suc, ◌+◌, ◌-◌, ◌*◌, ◌≤◌, ◌<◌, T, ltb, ℤ, pos, negsuc, neg_ℤ, ◌+ℤ◌, ◌-ℤ◌, ◌*ℤ◌, ◌≤ℤ◌}
use Rattle.std.proofs.Math.IntN.{sub_ℕ, +ℤ_assoc, +ℤ_idr, +ℤ_one, -ℤ_one, +ℤ_comm, ℤ_ind, suc_ℤ-*ℤ, pred_ℤ-*ℤ, zero-*ℤ, *ℤ_comm, *ℤ-one, one, neg_ℤ-neg_ℤ}
use Rattle.std.specs.Int.Signed.{le_z, le_z_yes}

-- ---- a - b of naturals: it is `sub_ℕ a b`, and two differences are one where their cross sums are
pub sub_is : (a b : ℕ) → pos a -ℤ pos b ≡ sub_ℕ a b
sub_is a zero = let t : ltb a 0 ≡ false = le-ltb a 0 (omega arith) in simp t (ap pos (omega arith))
sub_is a (suc b) = refl

pub minus_plus : (k r : ℕ) → neg_ℤ (pos k) +ℤ pos r ≡ sub_ℕ r k
minus_plus k r = +ℤ_comm (neg_ℤ (pos k)) (pos r) ∙ sub_is r k

pub sub_below : (a b : ℕ) → a < b → sub_ℕ a b ≡ negsuc (b - suc a)
sub_below a b h = let t : ltb a b ≡ true = lt-ltb a b h in simp t

pub sub_above : (a b : ℕ) → b ≤ a → sub_ℕ a b ≡ pos (a - b)
sub_above a b h = let t : ltb a b ≡ false = le-ltb a b h in simp t

pub sub_same : (a b c d : ℕ) → a + d ≡ c + b → sub_ℕ a b ≡ sub_ℕ c d
sub_same a b c d e = go (ltb a b) refl
  where
    go : (t : Bool) → ltb a b ≡ t → cond t (negsuc (b - suc a)) (pos (a - b)) ≡ sub_ℕ c d
    go true t = ap negsuc (omega (arith, ltb-true a b t)) ∙ sym (sub_below c d (omega (arith, ltb-true a b t)))
    go false t = ap pos (omega (arith, ltb-false a b t)) ∙ sym (sub_above c d (omega (arith, ltb-false a b t)))

pub sub_le : (a b c d : ℕ) → a + d ≤ c + b → sub_ℕ a b ≤ℤ sub_ℕ c d
sub_le a b c d h = le_z_yes (go (ltb a b) (ltb c d) refl refl)
  where
    go : (s t : Bool) → ltb a b ≡ s → ltb c d ≡ t → T (le_z (cond s (negsuc (b - suc a)) (pos (a - b))) (cond t (negsuc (d - suc c)) (pos (c - d))))
    go true true p q = le→leb (d - suc c) (b - suc a) (omega (arith, ltb-true a b p, ltb-true c d q))
    go true false p q = tt
    go false true p q = absurd (omega (arith, ltb-false a b p, ltb-true c d q))
    go false false p q = le→leb (a - b) (c - d) (omega (arith, ltb-false a b p, ltb-false c d q))

-- of two terms either may come in first
pub add_swap : (a b c : ℤ) → a +ℤ b +ℤ c ≡ a +ℤ c +ℤ b
add_swap a b c = +ℤ_assoc a b c ∙ ap (λ (z : ℤ). a +ℤ z) (+ℤ_comm b c) ∙ sym (+ℤ_assoc a c b)

-- ---- the product: over a sum, and of three
pub mul_add : (a b c : ℤ) → (a +ℤ b) *ℤ c ≡ a *ℤ c +ℤ b *ℤ c
mul_add a b c = ℤ_ind (λ (x : ℤ). (a +ℤ x) *ℤ c ≡ a *ℤ c +ℤ x *ℤ c) none (λ n. up (pos n)) (λ n. down (neg_ℤ (pos n))) b
  where
    none : (a +ℤ pos 0) *ℤ c ≡ a *ℤ c +ℤ pos 0 *ℤ c
    none = ap (λ (z : ℤ). z *ℤ c) (+ℤ_idr a) ∙ sym (+ℤ_idr (a *ℤ c)) ∙ ap (λ (z : ℤ). a *ℤ c +ℤ z) (sym (zero-*ℤ c))

    up : (x : ℤ) → (a +ℤ x) *ℤ c ≡ a *ℤ c +ℤ x *ℤ c → (a +ℤ (x +ℤ pos 1)) *ℤ c ≡ a *ℤ c +ℤ (x +ℤ pos 1) *ℤ c
    up x e =
        ap (λ (z : ℤ). z *ℤ c) (sym (+ℤ_assoc a x (pos 1)) ∙ +ℤ_one (a +ℤ x)) ∙ suc_ℤ-*ℤ (a +ℤ x) c ∙ ap (λ (z : ℤ). z +ℤ c) e
        ∙ +ℤ_assoc (a *ℤ c) (x *ℤ c) c ∙ ap (λ (z : ℤ). a *ℤ c +ℤ z) (sym (ap (λ (z : ℤ). z *ℤ c) (+ℤ_one x) ∙ suc_ℤ-*ℤ x c))

    down : (x : ℤ) → (a +ℤ x) *ℤ c ≡ a *ℤ c +ℤ x *ℤ c → (a +ℤ (x +ℤ negsuc 0)) *ℤ c ≡ a *ℤ c +ℤ (x +ℤ negsuc 0) *ℤ c
    down x e =
        ap (λ (z : ℤ). z *ℤ c) (sym (+ℤ_assoc a x (negsuc 0)) ∙ -ℤ_one (a +ℤ x)) ∙ pred_ℤ-*ℤ (a +ℤ x) c ∙ ap (λ (z : ℤ). z -ℤ c) e
        ∙ +ℤ_assoc (a *ℤ c) (x *ℤ c) (neg_ℤ c) ∙ ap (λ (z : ℤ). a *ℤ c +ℤ z) (sym (ap (λ (z : ℤ). z *ℤ c) (-ℤ_one x) ∙ pred_ℤ-*ℤ x c))

pub neg_mul : (a b : ℤ) → neg_ℤ a *ℤ b ≡ neg_ℤ (a *ℤ b)
neg_mul (pos zero) b = zero-*ℤ b ∙ ap neg_ℤ (sym (zero-*ℤ b))
neg_mul (pos (suc a)) (pos b) = refl
neg_mul (pos (suc a)) (negsuc b) = sym (neg_ℤ-neg_ℤ (pos (suc a * suc b)))
neg_mul (negsuc a) (pos b) = sym (neg_ℤ-neg_ℤ (pos (suc a * b)))
neg_mul (negsuc a) (negsuc b) = refl

one_mul : (z : ℤ) → pos 1 *ℤ z ≡ z
unfolding one
one_mul z = *ℤ_comm (pos 1) z ∙ *ℤ-one z

pub mul_mul : (a b c : ℤ) → a *ℤ b *ℤ c ≡ a *ℤ (b *ℤ c)
mul_mul a b c = ℤ_ind (λ (x : ℤ). x *ℤ b *ℤ c ≡ x *ℤ (b *ℤ c)) none (λ n e. both (pos n) (pos 1) e unit) (λ n e. both (neg_ℤ (pos n)) (negsuc 0) e minus) a
  where
    none : pos 0 *ℤ b *ℤ c ≡ pos 0 *ℤ (b *ℤ c)
    none = ap (λ (z : ℤ). z *ℤ c) (zero-*ℤ b) ∙ zero-*ℤ c ∙ sym (zero-*ℤ (b *ℤ c))

    -- x and y, for which it holds, make a sum for which it holds
    both : (x y : ℤ) → x *ℤ b *ℤ c ≡ x *ℤ (b *ℤ c) → y *ℤ b *ℤ c ≡ y *ℤ (b *ℤ c) → (x +ℤ y) *ℤ b *ℤ c ≡ (x +ℤ y) *ℤ (b *ℤ c)
    both x y e f =
        ap (λ (z : ℤ). z *ℤ c) (mul_add x y b) ∙ mul_add (x *ℤ b) (y *ℤ b) c ∙ ap (λ (z : ℤ). z +ℤ y *ℤ b *ℤ c) e ∙ ap (λ (z : ℤ). x *ℤ (b *ℤ c) +ℤ z) f
        ∙ sym (mul_add x y (b *ℤ c))

    unit : pos 1 *ℤ b *ℤ c ≡ pos 1 *ℤ (b *ℤ c)
    unit = ap (λ (z : ℤ). z *ℤ c) (one_mul b) ∙ sym (one_mul (b *ℤ c))

    minus : negsuc 0 *ℤ b *ℤ c ≡ negsuc 0 *ℤ (b *ℤ c)
    minus = ap (λ (z : ℤ). z *ℤ c) (neg_mul (pos 1) b ∙ ap neg_ℤ (one_mul b)) ∙ neg_mul b c ∙ sym (neg_mul (pos 1) (b *ℤ c) ∙ ap neg_ℤ (one_mul (b *ℤ c)))
