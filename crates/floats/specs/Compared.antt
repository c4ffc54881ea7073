-- The order of two floats by fractions with one denominator: that of the numerators, with their signs.
use Rattle.std.specs.Prelude.{◌≡◌, ℕ, zero, suc, ◌+◌, ◌*◌, ◌<◌, ◌≤◌, Bool, true, false, ◌&&◌, ◌||◌, leb, ℤ, pos, neg_ℤ, ◌==◌, ◌≢◌, int_le, nat_le, refl, Float}
use Rattle.std.proofs.Common.{sym, ap, ◌∙◌, add-zero, le_trans, le_of_eq, lt_of_le_of_lt, lt_of_lt_of_le, zero-mul, mul-pos, mul_assoc, mul_comm, mul_left_comm, mul-le-mul_right, mul-lt-mul_of_pos_right, le_of_mul-le-mul_right, lt_of_mul-lt-mul_right, arith, le-leb, leb-true, leb-false, eq-eqb, eqb-true}
use Rattle.std.proofs.Math.Dec.{leb-zero, leb-suc-zero, leb-suc-suc}
use Rattle.std.proofs.lemmas.Bool.{lt-leb}
use Rattle.std.specs.Float.{nan, inf, fin}
use Rattle.std.specs.Float.Ieee.{up, down, le}
use Rattle.std.specs.Float.Ieee.Fits.{down_pos}
use Rattle.std.specs.Float.Ieee.Exact.{HasValue}
use Rattle.floats.specs.Order.{or_eq, or_eq', mixed}

abbrev pub signed : Bool → ℕ → ℤ
signed false a = pos a
signed true a = neg_ℤ (pos a)

-- ---- two fractions with one denominator: x / p is a / c, y / q is b / c
module _ (x p y q a b c : ℕ) (P : 0 < p) (Q : 0 < q) (C : 0 < c) (v : x * c ≡ a * p) (w : y * c ≡ b * q) where
  left : x * q * c ≡ a * (p * q)
  left = simp (mul_assoc, mul_comm, mul_left_comm) (simp (mul_assoc, mul_comm) at (ap (λ (z : ℕ). z * q) v))

  right : y * p * c ≡ b * (p * q)
  right = simp (mul_assoc, mul_comm, mul_left_comm) (simp (mul_assoc, mul_comm, mul_left_comm) at (ap (λ (z : ℕ). z * p) w))

  cross : leb (x * q) (y * p) ≡ nat_le a b
  cross = go (nat_le a b) refl
    where
      go : (t : Bool) → nat_le a b ≡ t → nat_le (x * q) (y * p) ≡ t
      go true h = le-leb (x * q) (y * p) (le_of_mul-le-mul_right (le_trans (le_of_eq left) (le_trans (mul-le-mul_right (p * q) (leb-true a b h)) (le_of_eq (sym right)))) C)
      go false h =
          lt-leb (x * q) (y * p)
          (lt_of_mul-lt-mul_right c (lt_of_le_of_lt (le_of_eq right) (lt_of_lt_of_le (mul-lt-mul_of_pos_right (leb-false a b h) (mul-pos P Q)) (le_of_eq (sym left)))))

  -- 0 only where the other is
  zero_left : a ≡ 0 → x * q ≡ 0
  zero_left e = let h : x * q * c ≤ 0 * c = le_of_eq (left ∙ ap (λ (z : ℕ). z * (p * q)) e ∙ zero-mul (p * q) ∙ sym (zero-mul c)) in let l = le_of_mul-le-mul_right h C in omega arith

  zero_right : b ≡ 0 → y * p ≡ 0
  zero_right e = let h : y * p * c ≤ 0 * c = le_of_eq (right ∙ ap (λ (z : ℕ). z * (p * q)) e ∙ zero-mul (p * q) ∙ sym (zero-mul c)) in let l = le_of_mul-le-mul_right h C in omega arith

  left_zero : x * q ≡ 0 → a ≡ 0
  left_zero e = let h : a * (p * q) ≤ 0 * (p * q) = le_of_eq (sym left ∙ ap (λ (z : ℕ). z * c) e ∙ zero-mul c ∙ sym (zero-mul (p * q))) in let l = le_of_mul-le-mul_right h (mul-pos P Q) in omega arith

  right_zero : y * p ≡ 0 → b ≡ 0
  right_zero e = let h : b * (p * q) ≤ 0 * (p * q) = le_of_eq (sym right ∙ ap (λ (z : ℕ). z * c) e ∙ zero-mul c ∙ sym (zero-mul (p * q))) in let l = le_of_mul-le-mul_right h (mul-pos P Q) in omega arith

  -- a positive one is at most a negative one only where both are 0
  both_zero : (x * q == y * p && (false || x * q == 0)) ≡ nat_le (a + b) 0
  both_zero = go (nat_le (a + b) 0) refl
    where
      never : (s t : Bool) → (s ≡ true → x * q ≡ y * p) → (t ≡ true → x * q ≡ 0) → (x * q ≡ 0 → y * p ≢ 0) → (s && t) ≡ false
      never false t f g n = refl
      never true false f g n = refl
      never true true f g n = absurd (n (g refl) (sym (f refl) ∙ g refl))

      go : (t : Bool) → nat_le (a + b) 0 ≡ t → (x * q == y * p && x * q == 0) ≡ t
      go true h =
          let l : a + b ≤ 0 = leb-true (a + b) 0 h in
          let e : x * q ≡ 0 = zero_left (omega arith) in
          let f : y * p ≡ 0 = zero_right (omega arith) in
          ap (λ (t : Bool). t && x * q == 0) (eq-eqb (x * q) (y * p) (e ∙ sym f)) ∙ eq-eqb (x * q) 0 e
      go false h =
          let l : 0 < a + b = leb-false (a + b) 0 h in
          never (x * q == y * p) (x * q == 0) (eqb-true (x * q) (y * p)) (eqb-true (x * q) 0) (λ e f. let i = left_zero e in let j = right_zero f in omega arith)

-- ---- the signs
pub neg_neg : (a b : ℕ) → nat_le b a ≡ int_le (neg_ℤ (pos a)) (neg_ℤ (pos b))
neg_neg zero zero = refl
neg_neg zero (suc b) = leb-suc-zero b
neg_neg (suc a) zero = leb-zero (suc a)
neg_neg (suc a) (suc b) = leb-suc-suc b a

pub neg_pos : (a b : ℕ) → true ≡ int_le (neg_ℤ (pos a)) (pos b)
neg_pos zero b = sym (leb-zero b)
neg_pos (suc a) b = refl

pos_neg : (a b : ℕ) → nat_le (a + b) 0 ≡ int_le (pos a) (neg_ℤ (pos b))
pos_neg a zero = ap (λ (n : ℕ). leb n 0) (add-zero a)
pos_neg a (suc b) = lt-leb (a + suc b) 0 (omega arith)

le_parts : (s t : Bool) (m : ℕ) (e : ℤ) (n : ℕ) (d : ℤ) (a b c : ℕ) → 0 < c → m * up e * c ≡ a * down e → n * up d * c ≡ b * down d → le (fin s m e) (fin t n d) ≡ int_le (signed s a) (signed t b)
unfolding le
le_parts false false m e n d a b c C v w = or_eq (m * up e * down d) (n * up d * down e) ∙ cross (m * up e) (down e) (n * up d) (down d) a b c (down_pos e) (down_pos d) C v w
le_parts true true m e n d a b c C v w =
    or_eq' (m * up e * down d) (n * up d * down e) ∙ cross (n * up d) (down d) (m * up e) (down e) b a c (down_pos d) (down_pos e) C w v ∙ neg_neg a b
le_parts true false m e n d a b c C v w = mixed (n * up d * down e) (m * up e * down d) ∙ neg_pos a b
le_parts false true m e n d a b c C v w = both_zero (m * up e) (down e) (n * up d) (down d) a b c (down_pos e) (down_pos d) C v w ∙ pos_neg a b

-- the order of two floats by their fractions
pub le_by : (x y : Float) (s t : Bool) (a b c : ℕ) → 0 < c → HasValue x s a c → HasValue y t b c → le x y ≡ int_le (signed s a) (signed t b)
le_by nan y s t a b c C v w = absurd v
le_by (inf i) y s t a b c C v w = absurd v
le_by (fin i m e) nan s t a b c C v w = absurd w
le_by (fin i m e) (inf j) s t a b c C v w = absurd w
le_by (fin i m e) (fin j n d) s t a b c C v w =
    le_parts i j m e n d a b c C v.1 w.1 ∙ ap (λ (z : Bool). int_le (signed z a) (signed j b)) v.0 ∙ ap (λ (z : Bool). int_le (signed s a) (signed z b)) w.0
