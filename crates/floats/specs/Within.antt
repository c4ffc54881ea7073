-- Bounds that the operations keep: `Within B x` says that x is finite and at most B in size, as `within B x` tests.
use Rattle.std.specs.Prelude.{◌≡◌, ℕ, zero, suc, ◌+◌, ◌-◌, ◌*◌, ◌^◌, ◌<◌, ◌≤◌, Bool, true, false, cond, not, ◌&&◌, ◌||◌, T, ◌⊎◌, List, ℤ, pos, negsuc, ◌==◌, ◌≢◌, is_nan, nat_lt, slice_index_or, Float}
use Rattle.std.proofs.Common.{sym, ap, ◌∙◌, subst, inl, inr, le_trans, le_of_eq, le_of_lt, zero-lt-suc, mul-one, mul_comm, mul_assoc, mul_left_comm, mul_right_comm, mul-le-mul_right, mul-le-mul, le_of_mul-le-mul_right, mul-pos, add-mul, arith, true≢false, ltb→lt, eqb→eq, leb→le, le→leb, lit≤}
use Rattle.std.proofs.Math.Nat.{mul-mul-mul_comm}
use Rattle.std.specs.Bool.{beq}
use Rattle.std.specs.Int.Signed.{mag}
use Rattle.std.specs.Float.Ieee as Ieee
use Rattle.std.specs.Float.Ieee.{unlike, up, down, odd, units, round, sum, add, mul, div, le, of_int}
use Rattle.std.specs.Float.{nan, inf, fin, Format, binary32}
use Rattle.std.specs.Float.Ieee.Fits.{down_pos, and_l, round_is}
use Rattle.std.specs.Float.Ieee.Exact.{HasValue}
use Rattle.std.specs.Float.Ieee.Order.{round_mono}
use Rattle.std.specs.Float.Ieee.Positive.{first_pos}
use Rattle.std.specs.Float.Ieee.Back.{round_whole}
use Rattle.std.specs.Float.Ieee.Scale.{finite}
use Rattle.floats.specs.Floats.{within}
use Rattle.floats.specs.NoNan.{finite_no_nan}
use Rattle.floats.specs.Value.{scaled_val}

-- ---- bounds: x is finite and at most B in size
abbrev pub Within : ℕ → Float → Type 0
Within B nan = ⊥
Within B (inf s) = ⊥
Within B (fin s m e) = m * up e ≤ B * down e

-- each of the first n floats of a list is
abbrev pub Bounded : ℕ → ℕ → List Float → Type 0
Bounded B n l = (k : ℕ) → k < n → T (within B (slice_index_or l k nan))

-- the two say the same
pub within→ : (B : ℕ) (x : Float) → T (within B x) → Within B x
unfolding within
within→ B nan t = t
within→ B (inf s) t = t
within→ B (fin s m e) t = leb→le (m * up e) (B * down e) t

pub →within : (B : ℕ) (x : Float) → Within B x → T (within B x)
unfolding within
→within B nan t = t
→within B (inf s) t = t
→within B (fin s m e) t = le→leb (m * up e) (B * down e) t

pub within_finite : (B : ℕ) (x : Float) → Within B x → T (finite x)
within_finite B nan p = absurd p
within_finite B (inf s) p = absurd p
within_finite B (fin s m e) p = tt

-- so what passes the test is finite, and no NaN
pub within_is_finite : (B : ℕ) (x : Float) → T (within B x) → T (finite x)
within_is_finite B x h = within_finite B x (within→ B x h)

pub within_is_number : (B : ℕ) (x : Float) → T (within B x) → T (not (is_nan x))
within_is_number B x h = finite_no_nan x (within_is_finite B x h)

under_val : (y : Float) (B m : ℕ) (e : ℤ) → HasValue y false B 1 → T (le (fin false m e) y) → m * up e ≤ B * down e
unfolding le
under_val nan B m e v h = absurd v
under_val (inf t) B m e v h = absurd v
under_val (fin true n d) B m e v h = absurd (true≢false v.0)
under_val (fin false n d) B m e v h =
    le_of_mul-le-mul_right
    (le_trans (lt_or_eq (m * up e * down d) (n * up d * down e) h)
    (le_of_eq (ap (λ (z : ℕ). z * down e) (sym (mul-one (n * up d)) ∙ v.1) ∙ mul_right_comm B (down d) (down e))))
    (down_pos d)
  where
    or_split : (a b : Bool) → T (a || b) → T a ⊎ T b
    or_split true b t = inl tt
    or_split false b t = inr t

    lt_or_eq : (a b : ℕ) → T (nat_lt a b || (a == b && true)) → a ≤ b
    lt_or_eq a b t = elim (or_split (nat_lt a b) (a == b && true) t) [ inl u ↦ le_of_lt (ltb→lt a b u) | inr u ↦ le_of_eq (eqb→eq a b (and_l (a == b) true u)) ]

odd_within : (d : ℕ) (s : Bool) (q k l : ℕ) (y : Float) (B : ℕ) → HasValue y false B 1 → T (le (odd d false q k l) y) → Within B (odd d s q k l)
unfolding odd
odd_within d s zero k l y B v h = under_val y B 0 (pos 0) v h
odd_within d s (suc q) k l y B v h = under_val y B _ _ v h

no_inf : (y : Float) (B : ℕ) → HasValue y false B 1 → T (le (inf false) y) → ⊥
unfolding le
no_inf nan B v h = v
no_inf (inf t) B v h = v
no_inf (fin t n d) B v h = h

units_within : (f : Format) (s : Bool) (q k : ℕ) (y : Float) (B : ℕ) → HasValue y false B 1 → T (le (units f false q k) y) → Within B (units f s q k)
unfolding units
units_within f s q k y B v h = go (nat_lt (q * 2 ^ k) (2 ^ (Ieee.low f + suc (Ieee.emax f)))) h
  where
    go : (b : Bool) → T (le (cond b (odd (suc (Ieee.prec f)) false q k (Ieee.low f)) (inf false)) y) → Within B (cond b (odd (suc (Ieee.prec f)) s q k (Ieee.low f)) (inf s))
    go true t = odd_within (suc (Ieee.prec f)) s q k (Ieee.low f) y B v t
    go false t = absurd (no_inf y B v t)

-- B is a value of the format
abbrev pub Held : Format → ℕ → Type 0
Held f B = HasValue (round f false B 1) false B 1

-- it is, for each whole number up to 2 ^ 24
pub held : (B : ℕ) → B ≤ 2 ^ 24 → Held binary32 B
held B h = round_whole binary32 false B h

-- and for the multiples of 65,536 below 2 ^ 40
pub held_scaled : (q : ℕ) → q < 2 ^ 24 → Held binary32 (q * 65536)
held_scaled q h = scaled_val q h

pub round_within : (f : Format) (s : Bool) (a c B : ℕ) → 0 < c → Held f B → a ≤ B * c → Within B (round f s a c)
round_within f s a c B C v h =
    subst (λ (z : Float). Within B z) (sym (round_is f s a c))
    (units_within f s _ _ (round f false B 1) B v
    (subst (λ (z : Float). T (le z (round f false B 1))) (round_is f false a c) (round_mono f a c B 1 C (zero-lt-suc 0) (le_trans (le_of_eq (mul-one a)) h))))

sum_within : (f : Format) (s : Bool) (a : ℕ) (t : Bool) (b c B : ℕ) → 0 < c → Held f B → a + b ≤ B * c → Within B (sum f s a t b c)
unfolding sum
sum_within f s a t b c B C v h = go (beq s t) (nat_lt a b)
  where
    go : (p q : Bool) → Within B (cond p (round f s (a + b) c) (cond q (round f t (b - a) c) (round f (s && nat_lt b a) (a - b) c)))
    go true q = round_within f s (a + b) c B C v h
    go false true = round_within f t (b - a) c B C v (omega arith)
    go false false = round_within f (s && nat_lt b a) (a - b) c B C v (omega arith)

pub add_within : (f : Format) (x y : Float) (a b B : ℕ) → Held f B → a + b ≤ B → Within a x → Within b y → Within B (add f x y)
unfolding add
add_within f nan y a b B v h p q = absurd p
add_within f (inf s) y a b B v h p q = absurd p
add_within f (fin s m e) nan a b B v h p q = absurd q
add_within f (fin s m e) (inf t) a b B v h p q = absurd q
add_within f (fin s m e) (fin t n d) a b B v h p q =
    let c = down e * down d in
    let l : m * up e * down d ≤ a * c = le_trans (mul-le-mul_right (down d) p) (le_of_eq (mul_assoc a (down e) (down d))) in
    let r : n * up d * down e ≤ b * c = le_trans (mul-le-mul_right (down e) q) (le_of_eq (mul_assoc b (down d) (down e) ∙ ap (λ (z : ℕ). b * z) (mul_comm (down d) (down e)))) in
    let z : (a + b) * c ≤ B * c = mul-le-mul_right c h in
    let w : (a + b) * c ≡ a * c + b * c = add-mul a b c in
    sum_within f s (m * up e * down d) t (n * up d * down e) c B (mul-pos (down_pos e) (down_pos d)) v (omega arith)

pub mul_within : (f : Format) (x y : Float) (a b B : ℕ) → Held f B → a * b ≤ B → Within a x → Within b y → Within B (mul f x y)
unfolding mul
mul_within f nan y a b B v h p q = absurd p
mul_within f (inf s) y a b B v h p q = absurd p
mul_within f (fin s m e) nan a b B v h p q = absurd q
mul_within f (fin s m e) (inf t) a b B v h p q = absurd q
mul_within f (fin s m e) (fin t n d) a b B v h p q =
    round_within f (unlike s t) (m * up e * (n * up d)) (down e * down d) B (mul-pos (down_pos e) (down_pos d)) v
    (le_trans (mul-le-mul p q) (le_trans (le_of_eq (mul-mul-mul_comm a (down e) b (down d))) (mul-le-mul_right (down e * down d) h)))

-- |x / y| ≤ B for |x| ≤ B * n and y = n
pub div_within : (f : Format) (x y : Float) (n B : ℕ) → Held f B → 0 < n → HasValue y false n 1 → Within (B * n) x → Within B (div f x y)
unfolding div
div_within f nan y n B v N w p = absurd p
div_within f (inf s) y n B v N w p = absurd p
div_within f (fin s m e) nan n B v N w p = absurd w
div_within f (fin s m e) (inf t) n B v N w p = absurd w
div_within f (fin s m e) (fin t k d) n B v N w p = go (k == 0) (eqb→eq k 0)
  where
    num : m * up e * down d ≤ B * (k * up d * down e)
    num =
        le_trans (mul-le-mul_right (down d) p)
        (le_of_eq (simp (mul_assoc, mul_comm, mul_left_comm) (simp (mul_assoc, mul_left_comm) at (ap (λ (z : ℕ). B * down e * z) (sym (sym (mul-one (k * up d)) ∙ w.1))))))

    is : k * up d ≡ n * down d
    is = sym (mul-one (k * up d)) ∙ w.1

    above : 0 < k * up d
    above = subst (λ (z : ℕ). 0 < z) (sym is) (mul-pos N (down_pos d))

    pos_k : (k ≢ 0)
    pos_k z = let l : 0 < k = first_pos k (up d) above in omega arith

    go : (b : Bool) → (T b → k ≡ 0) → Within B (cond b (cond (m == 0) nan (inf (unlike s t))) (round f (unlike s t) (m * up e * down d) (k * up d * down e)))
    go true h = absurd (pos_k (h tt))
    go false h = round_within f (unlike s t) (m * up e * down d) (k * up d * down e) B (mul-pos above (down_pos e)) v num

pub wider : (a B : ℕ) (x : Float) → a ≤ B → Within a x → Within B x
wider a B nan h p = absurd p
wider a B (inf s) h p = absurd p
wider a B (fin s m e) h p = le_trans p (mul-le-mul_right (down e) h)

-- a 16-bit number's float is within 32,768
pub int_within : (z : ℤ) → mag z < 32768 → Within 32768 (of_int binary32 z)
unfolding of_int
int_within (pos n) h = round_within binary32 false n 1 32768 (zero-lt-suc 0) (held 32768 (lit≤ tt)) (omega arith)
int_within (negsuc n) h = round_within binary32 true (suc n) 1 32768 (zero-lt-suc 0) (held 32768 (lit≤ tt)) (omega arith)
