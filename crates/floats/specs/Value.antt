-- Floats by the fractions that they equal: sums, products, whole numbers, comparisons.
use Rattle.std.specs.Prelude.{◌≡◌, ℕ, ◌+◌, ◌*◌, ◌^◌, ◌<◌, ◌≤◌, true, false, ℤ, pos, Float}
use Rattle.std.proofs.Common.{sym, ap, ◌∙◌, lt_of_lt_of_le, lt_of_le_of_lt, le_trans, le_of_eq, zero-lt-suc, mul-one, mul_comm, mul_assoc, mul_left_comm, mul_right_comm, mul-le-mul_right, mul-lt-mul_of_pos_right, le_of_mul-le-mul_right, lt_of_mul-lt-mul_right, mul-pos, add-mul, true≢false, lit≤, ltb-true, ltb-false, pow_mono, shl_lt}
use Rattle.std.proofs.Math.Nat.{mul-mul-mul_comm}
use Rattle.std.specs.Float.{nan, inf, fin, Format, binary32}
use Rattle.std.specs.Float.Ieee.{up, down, round, sum, add, mul, lt, of_int}
use Rattle.std.specs.Float.Ieee.Fits.{down_pos}
use Rattle.std.specs.Float.Ieee.Exact.{HasValue, round_exact}
use Rattle.std.specs.Float.Ieee.Scale.{round_same}
use Rattle.std.specs.Float.Ieee.Back.{round_whole}

-- ---- a sum of two values that are not negative, and a product, by their fractions
pub add_at : (f : Format) (x y : Float) (a c b d : ℕ) → 0 < c → 0 < d → HasValue x false a c → HasValue y false b d → add f x y ≡ round f false (a * d + b * c) (c * d)
unfolding add sum
add_at f nan y a c b d C D h k = absurd h
add_at f (inf s) y a c b d C D h k = absurd h
add_at f (fin s m e) nan a c b d C D h k = absurd k
add_at f (fin s m e) (inf t) a c b d C D h k = absurd k
add_at f (fin true m e) (fin t n g) a c b d C D h k = absurd (true≢false h.0)
add_at f (fin false m e) (fin true n g) a c b d C D h k = absurd (true≢false k.0)
add_at f (fin false m e) (fin false n g) a c b d C D h k =
    round_same f false (m * up e * down g + n * up g * down e) (down e * down g) (a * d + b * c) (c * d) (mul-pos (down_pos e) (down_pos g)) (mul-pos C D)
    (cross (m * up e) (down e) (n * up g) (down g) h.1 k.1)
  where
    cross : (x p y q : ℕ) → x * c ≡ a * p → y * d ≡ b * q → (x * q + y * p) * (c * d) ≡ (a * d + b * c) * (p * q)
    cross x p y q h k =
        let l : x * q * (c * d) ≡ a * d * (p * q) = simp (mul_assoc, mul_comm, mul_left_comm) (simp (mul_assoc, mul_comm, mul_left_comm) at (ap (λ (z : ℕ). z * (q * d)) h)) in
        let r : y * p * (c * d) ≡ b * c * (p * q) = simp (mul_assoc, mul_comm, mul_left_comm) (simp (mul_assoc, mul_comm, mul_left_comm) at (ap (λ (z : ℕ). z * (p * c)) k)) in
        add-mul (x * q) (y * p) (c * d) ∙ ap (λ (z : ℕ). z + y * p * (c * d)) l ∙ ap (λ (z : ℕ). a * d * (p * q) + z) r ∙ sym (add-mul (a * d) (b * c) (p * q))

pub mul_at : (f : Format) (x y : Float) (a c b d : ℕ) → 0 < c → 0 < d → HasValue x false a c → HasValue y false b d → mul f x y ≡ round f false (a * b) (c * d)
unfolding mul
mul_at f nan y a c b d C D h k = absurd h
mul_at f (inf s) y a c b d C D h k = absurd h
mul_at f (fin s m e) nan a c b d C D h k = absurd k
mul_at f (fin s m e) (inf t) a c b d C D h k = absurd k
mul_at f (fin true m e) (fin t n g) a c b d C D h k = absurd (true≢false h.0)
mul_at f (fin false m e) (fin true n g) a c b d C D h k = absurd (true≢false k.0)
mul_at f (fin false m e) (fin false n g) a c b d C D h k =
    round_same f false (m * up e * (n * up g)) (down e * down g) (a * b) (c * d) (mul-pos (down_pos e) (down_pos g)) (mul-pos C D)
    (mul-mul-mul_comm (m * up e) (n * up g) c d ∙ ap (λ (z : ℕ). z * (n * up g * d)) h.1 ∙ ap (λ (z : ℕ). a * down e * z) k.1 ∙ mul-mul-mul_comm a (down e) b (down g))

-- a whole number n up to 2 ^ 24 as an f32
pub whole_val : (n : ℕ) → n ≤ 2 ^ 24 → HasValue (of_int binary32 (pos n)) false n 1
unfolding of_int
whole_val n h = round_whole binary32 false n h

-- q * 65536, for a q below 2 ^ 24
pub scaled_val : (q : ℕ) → q < 2 ^ 24 → HasValue (round binary32 false (q * 65536) 1) false (q * 65536) 1
scaled_val q h = round_exact binary32 false (q * 65536) 1 q 165 (zero-lt-suc 0) h (lt_of_lt_of_le (shl_lt 24 165 h) (pow_mono {i = 189} {j = 277} (lit≤ tt))) (mul_assoc q 65536 (2 ^ 149) ∙ sym (mul-one (q * 2 ^ 165)))

-- x / p and y / q, where y / q is a / c: the two orders agree
cross_lt : (x p y q a c : ℕ) → 0 < q → y * c ≡ a * q → x * q < y * p → 0 < c → x * c < a * p
cross_lt x p y q a c Q v h C =
    lt_of_mul-lt-mul_right q
    (lt_of_le_of_lt (le_of_eq (mul_right_comm x c q))
    (lt_of_lt_of_le (mul-lt-mul_of_pos_right h C) (le_of_eq (mul_right_comm y p c ∙ ap (λ (z : ℕ). z * p) v ∙ mul_right_comm a q p))))

cross_ge : (x p y q a c : ℕ) → 0 < q → y * c ≡ a * q → y * p ≤ x * q → a * p ≤ x * c
cross_ge x p y q a c Q v h =
    le_of_mul-le-mul_right
    (le_trans (le_of_eq (mul_right_comm a p q ∙ ap (λ (z : ℕ). z * p) (sym v) ∙ mul_right_comm y c p))
    (le_trans (mul-le-mul_right c h) (le_of_eq (mul_right_comm x q c))))
    Q

cross_gt : (x p y q a c : ℕ) → 0 < q → y * c ≡ a * q → y * p < x * q → 0 < c → a * p < x * c
cross_gt x p y q a c Q v h C =
    lt_of_mul-lt-mul_right q
    (lt_of_le_of_lt (le_of_eq (mul_right_comm a p q ∙ ap (λ (z : ℕ). z * p) (sym v) ∙ mul_right_comm y c p))
    (lt_of_lt_of_le (mul-lt-mul_of_pos_right h C) (le_of_eq (mul_right_comm x q c))))

cross_le : (x p y q a c : ℕ) → 0 < q → y * c ≡ a * q → x * q ≤ y * p → x * c ≤ a * p
cross_le x p y q a c Q v h =
    le_of_mul-le-mul_right
    (le_trans (le_of_eq (mul_right_comm x c q))
    (le_trans (mul-le-mul_right c h) (le_of_eq (mul_right_comm y p c ∙ ap (λ (z : ℕ). z * p) v ∙ mul_right_comm a q p))))
    Q

-- ---- a comparison with a fraction
pub lt_of : (m : ℕ) (e : ℤ) (y : Float) (a c : ℕ) → 0 < c → HasValue y false a c → lt (fin false m e) y ≡ true → m * up e * c < a * down e
unfolding lt
lt_of m e nan a c C v h = absurd v
lt_of m e (inf t) a c C v h = absurd v
lt_of m e (fin true n d) a c C v h = absurd (true≢false v.0)
lt_of m e (fin false n d) a c C v h = cross_lt (m * up e) (down e) (n * up d) (down d) a c (down_pos d) v.1 (ltb-true (m * up e * down d) (n * up d * down e) h) C

pub ge_of : (m : ℕ) (e : ℤ) (y : Float) (a c : ℕ) → 0 < c → HasValue y false a c → lt (fin false m e) y ≡ false → a * down e ≤ m * up e * c
unfolding lt
ge_of m e nan a c C v h = absurd v
ge_of m e (inf t) a c C v h = absurd v
ge_of m e (fin true n d) a c C v h = absurd (true≢false v.0)
ge_of m e (fin false n d) a c C v h = cross_ge (m * up e) (down e) (n * up d) (down d) a c (down_pos d) v.1 (ltb-false (m * up e * down d) (n * up d * down e) h)

pub gt_of : (m : ℕ) (e : ℤ) (y : Float) (a c : ℕ) → 0 < c → HasValue y false a c → lt y (fin false m e) ≡ true → a * down e < m * up e * c
unfolding lt
gt_of m e nan a c C v h = absurd v
gt_of m e (inf t) a c C v h = absurd v
gt_of m e (fin true n d) a c C v h = absurd (true≢false v.0)
gt_of m e (fin false n d) a c C v h = cross_gt (m * up e) (down e) (n * up d) (down d) a c (down_pos d) v.1 (ltb-true (n * up d * down e) (m * up e * down d) h) C

pub le_of : (m : ℕ) (e : ℤ) (y : Float) (a c : ℕ) → 0 < c → HasValue y false a c → lt y (fin false m e) ≡ false → m * up e * c ≤ a * down e
unfolding lt
le_of m e nan a c C v h = absurd v
le_of m e (inf t) a c C v h = absurd v
le_of m e (fin true n d) a c C v h = absurd (true≢false v.0)
le_of m e (fin false n d) a c C v h = cross_le (m * up e) (down e) (n * up d) (down d) a c (down_pos d) v.1 (ltb-false (n * up d * down e) (m * up e * down d) h)
