-- The order of finite floats: what `le` and `lt` say of the numbers, and that of any two one is at most the other.
use Rattle.std.specs.Prelude.{◌≡◌, ℕ, ◌+◌, ◌*◌, ◌<◌, ◌≤◌, Bool, true, false, not, ◌&&◌, ◌||◌, T, ◌⊎◌, ◌==◌, nat_le, nat_lt, refl, Float}
use Rattle.std.proofs.Common.{sym, ap, ◌∙◌, inl, inr, eq-or-lt_of_le, le_of_lt, le_of_eq, arith, nltb→le, le-leb, leb-true, leb-false, lt-ltb, le-ltb, ltb-false, eq-eqb, ne_eqb, eqb-true}
use Rattle.std.proofs.lemmas.Bool.{eqb-false}
use Rattle.std.specs.Float.{nan, inf, fin}
use Rattle.std.specs.Float.Ieee.{up, down, lt, le, eq}
use Rattle.std.specs.Float.Ieee.Scale.{finite}

-- ---- the tests that `le` makes of two sizes a and b
-- of one sign
pub or_eq : (a b : ℕ) → (nat_lt a b || (a == b && true)) ≡ nat_le a b
or_eq a b = go (nat_le a b) refl
  where
    go : (t : Bool) → nat_le a b ≡ t → (nat_lt a b || (a == b && true)) ≡ t
    go false h = let l : b < a = leb-false a b h in ap (λ (x : Bool). x || (a == b && true)) (le-ltb a b (le_of_lt l)) ∙ ap (λ (x : Bool). x && true) (ne_eqb a b (λ e. omega arith))
    go true h = at (eq-or-lt_of_le (leb-true a b h))
      where
        at : (a ≡ b) ⊎ (a < b) → (nat_lt a b || (a == b && true)) ≡ true
        at (inl e) = ap (λ (x : Bool). x || (a == b && true)) (le-ltb a b (le_of_eq (sym e))) ∙ ap (λ (x : Bool). x && true) (eq-eqb a b e)
        at (inr l) = ap (λ (x : Bool). x || (a == b && true)) (lt-ltb a b l)

eqb_swap : (a b : ℕ) → (a == b) ≡ (b == a)
eqb_swap a b = go (b == a) refl
  where
    go : (t : Bool) → (b == a) ≡ t → (a == b) ≡ t
    go true h = eq-eqb a b (sym (eqb-true b a h))
    go false h = ne_eqb a b (λ e. eqb-false b a h (sym e))

-- both negative
pub or_eq' : (a b : ℕ) → (nat_lt b a || (a == b && true)) ≡ nat_le b a
or_eq' a b = ap (λ (x : Bool). nat_lt b a || (x && true)) (eqb_swap a b) ∙ or_eq b a

zero_eq : (a b : ℕ) → a ≡ 0 → b ≡ 0 → (b == a && (false || b == 0)) ≡ true
zero_eq a b p q = ap (λ (z : Bool). z && (false || b == 0)) (eq-eqb b a (q ∙ sym p)) ∙ eq-eqb b 0 q

-- a negative one and a positive one, either of which may be 0
pub mixed : (a b : ℕ) → (nat_lt 0 (b + a) || (b == a && (false || b == 0))) ≡ true
mixed a b = go (nat_lt 0 (b + a)) (nltb→le 0 (b + a))
  where
    go : (t : Bool) → (T (not t) → b + a ≤ 0) → (t || (b == a && (false || b == 0))) ≡ true
    go true h = refl
    go false h = let z = h tt in zero_eq a b (omega arith) (omega arith)

-- ---- the order is total
pub not_below : (x y : Float) → T (finite x) → T (finite y) → lt x y ≡ false → le y x ≡ true
unfolding le
not_below nan y p q h = absurd p
not_below (inf s) y p q h = absurd p
not_below (fin s m e) nan p q h = absurd q
not_below (fin s m e) (inf t) p q h = absurd q
not_below (fin false m e) (fin false n d) p q h =
    or_eq (n * up d * down e) (m * up e * down d) ∙ le-leb (n * up d * down e) (m * up e * down d) (ltb-false (m * up e * down d) (n * up d * down e) h)
not_below (fin false m e) (fin true n d) p q h = mixed (m * up e * down d) (n * up d * down e)
not_below (fin true m e) (fin false n d) p q h =
    let z : m * up e * down d + n * up d * down e ≤ 0 = ltb-false 0 (m * up e * down d + n * up d * down e) h in
    zero_eq (m * up e * down d) (n * up d * down e) (omega arith) (omega arith)
not_below (fin true m e) (fin true n d) p q h =
    or_eq' (n * up d * down e) (m * up e * down d) ∙ le-leb (m * up e * down d) (n * up d * down e) (ltb-false (n * up d * down e) (m * up e * down d) h)

pub below_le : (x y : Float) → lt x y ≡ true → le x y ≡ true
unfolding le
below_le x y h = ap (λ (b : Bool). b || eq x y) h
