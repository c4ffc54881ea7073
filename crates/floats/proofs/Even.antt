-- The whole number nearest to a float, a tie to the even one: the library's rounding gives its float, and the cast that number.
use Rattle.std.proofs.Common.{◌≡◌, ℕ, ◌+◌, ◌*◌, ◌/◌, ◌%◌, ◌^◌, ◌<◌, ◌≤◌, true, false, not, T, eqb, ℤ, pos, sym, refl, ap, ◌∙◌, subst, true≢false, le_trans, le_of_eq, lt_of_le_of_lt, le_of_lt, zero-lt-suc, mul-le-mul_right, mul-one, arith, eqb→eq, ltb→lt, lt→ltb, leb→le, lit≤}
use Rattle.std.specs.Float.{round_with, round_ties_even}
use Prim.Native.Nat.{compare, Ordering}
use native.Mathlib.Nat.{mul-div_cancel}
use lib.Arith.{lt_of_le-ne}
use lib.Dec.{is_le, compare_is_eq, nleb→lt, eqb_refl}
use lib.Ieee.{Float, nan, inf, fin, binary32, up, down, nearest, lt, of_int, to_unsigned}
use lib.Ieee.Fits.{down_pos}
use lib.Ieee.Exact.{HasValue}
use lib.Ieee.Nearest.{closest, closest_mono}
use Rattle.floats.specs.Floats.{nearest_even}
use Rattle.floats.specs.Value.{whole_val}

-- ---- what `compare` says
abbrev Cmp : Ordering → ℕ → ℕ → Type 0
Cmp Ordering.lt a b = a < b
Cmp Ordering.eq a b = a ≡ b
Cmp Ordering.gt a b = b < a

cmp : (a b : ℕ) → Cmp (compare a b) a b
cmp a b = go (compare a b) (leb→le a b) (nleb→lt a b) (eqb→eq a b) (λ (e : a ≡ b). subst (λ (x : ℕ). T (eqb a x)) e (eqb_refl a))
  where
    go : (o : Ordering) → (T (is_le o) → a ≤ b) → (T (not (is_le o)) → b < a) → (T (compare_is_eq o) → a ≡ b) → (a ≡ b → T (compare_is_eq o)) → Cmp o a b
    go Ordering.lt h k e n = lt_of_le-ne (h tt) n
    go Ordering.eq h k e n = e tt
    go Ordering.gt h k e n = k tt

down_near : (w a b : ℕ) → a < b → nearest w (compare a b) ≡ w
down_near w a b h = go (compare a b) (cmp a b)
  where
    go : (o : Ordering) → Cmp o a b → nearest w o ≡ w
    go Ordering.lt k = refl
    go Ordering.eq k = absurd (omega arith)
    go Ordering.gt k = absurd (omega arith)

-- a whole number is the nearest to itself
pub itself : (n : ℕ) → closest n 1 ≡ n
itself n = let e : n / 1 ≡ n = omega arith in down_near (n / 1) (n % 1 * 2) 1 (omega arith) ∙ e

-- ---- an x above 0 and below 32,767
abbrev pub Small : Float → Type 0
Small x = T (lt (fin false 0 (pos 0)) x) × T (lt x (fin false 32767 (pos 0)))

-- is m * 2 ^ e, and that is below 32,767
by_size : (P : Float → Type 0) → ((m : ℕ) (e : ℤ) → m * up e < 32767 * down e → P (fin false m e)) → (x : Float) → Small x → P x
unfolding lt
by_size P f nan h = absurd h.0
by_size P f (inf true) h = absurd h.0
by_size P f (inf false) h = absurd h.1
by_size P f (fin true m e) h = absurd h.0
by_size P f (fin false m e) h = f m e (lt_of_le_of_lt (le_of_eq (sym (mul-one (m * up e)))) (ltb→lt (m * up e * 1) (32767 * 1 * down e) h.1))

-- rounded it is the float of the nearest whole number
rounded : (x : Float) → Small x → round_ties_even binary32 x ≡ of_int binary32 (pos (nearest_even x))
unfolding round_with nearest_even of_int
rounded = by_size (λ x. round_ties_even binary32 x ≡ of_int binary32 (pos (nearest_even x))) (λ m e h. refl)

nearest_le : (x : Float) → Small x → nearest_even x ≤ 32767
unfolding nearest_even
nearest_le =
    by_size (λ x. nearest_even x ≤ 32767)
    (λ m e h. le_trans (closest_mono (m * up e) (down e) 32767 1 (down_pos e) (zero-lt-suc 0) (le_trans (le_of_eq (mul-one (m * up e))) (le_of_lt h))) (le_of_eq (itself 32767)))

-- ---- the float of a whole number up to 32,767
by_value : (P : Float → Type 0) (n : ℕ) → ((m : ℕ) (e : ℤ) → m * up e ≡ n * down e → P (fin false m e)) → (y : Float) → HasValue y false n 1 → P y
by_value P n f nan v = absurd v
by_value P n f (inf s) v = absurd v
by_value P n f (fin true m e) v = absurd (true≢false v.0)
by_value P n f (fin false m e) v = f m e (sym (mul-one (m * up e)) ∙ v.1)

-- what `truncating_f32_to_u64` asks, and gives
value_above : (y : Float) (n : ℕ) → HasValue y false n 1 → T (lt (fin true 1 (pos 0)) y)
unfolding lt
value_above y n v = by_value (λ y. T (lt (fin true 1 (pos 0)) y)) n (λ m e w. lt→ltb 0 (1 * 1 * down e + m * up e * 1) (let d : 0 < down e = down_pos e in omega arith)) y v

value_below : (y : Float) (n : ℕ) → n ≤ 32767 → HasValue y false n 1 → T (lt y (fin false 1 (pos 64)))
unfolding lt
value_below y n h v =
    by_value (λ y. T (lt y (fin false 1 (pos 64)))) n
    (λ m e w. lt→ltb (m * up e * 1) (1 * 2 ^ 64 * down e) (let d : 0 < down e = down_pos e in let l : n * down e ≤ 32767 * down e = mul-le-mul_right (down e) h in omega arith)) y v

value_whole : (y : Float) (n : ℕ) → n ≤ 32767 → HasValue y false n 1 → to_unsigned 64 y ≡ n
unfolding to_unsigned
value_whole y n h v =
    by_value (λ y. to_unsigned 64 y ≡ n) n
    (λ m e w. let q : m * up e / down e ≡ n = ap (λ (z : ℕ). z / down e) w ∙ mul-div_cancel n (down_pos e) in omega arith) y v

-- ---- so it is of x, rounded
module _ (x : Float) (k : Small x) where
  value : HasValue (round_ties_even binary32 x) false (nearest_even x) 1
  value = subst (λ (z : Float). HasValue z false (nearest_even x) 1) (sym (rounded x k)) (whole_val (nearest_even x) (le_trans (nearest_le x k) (lit≤ tt)))

  pub above_minus_one : T (lt (fin true 1 (pos 0)) (round_ties_even binary32 x))
  above_minus_one = value_above (round_ties_even binary32 x) (nearest_even x) value

  pub below_2_64 : T (lt (round_ties_even binary32 x) (fin false 1 (pos 64)))
  below_2_64 = value_below (round_ties_even binary32 x) (nearest_even x) (nearest_le x k) value

  pub whole_is : to_unsigned 64 (round_ties_even binary32 x) ≡ nearest_even x
  whole_is = value_whole (round_ties_even binary32 x) (nearest_even x) (nearest_le x k) value
