-- A float that carries its bound, a power of two, through the operations: how an expression is seen to be finite.
use Rattle.std.specs.Prelude.{◌≡◌, ℕ, zero, suc, ◌+◌, ◌*◌, ◌/◌, ◌%◌, ◌^◌, ◌≤◌, ◌<◌, Bool, false, ◌&&◌, pos, T, leb, ltb, Float}
use Rattle.std.proofs.Common.{sym, ap, ◌∙◌, subst, le_trans, le_of_eq, zero-lt-suc, one-mul, mul-one, mul_right_comm, mul-le-mul, mul-le-mul_right, le_of_mul-le-mul_right, arith, leb→le, ltb→lt, lit<, pow_pos, pow_mono, pow-add, ne_eqb}
use Rattle.std.proofs.Math.Pow.{pow-lt}
use Rattle.std.specs.Float.{nan, inf, fin, binary32}
use Rattle.std.specs.Float.Ieee.{down, odd, neg, of_fields, of_bits, of_int}
use Rattle.std.specs.Float.Ieee as Ieee
use Rattle.std.specs.Float.Ieee.Exact.{HasValue, odd_sign, round_exact}
use Rattle.std.specs.Float.Ieee.Fits.{and_l, and_r}
use Rattle.floats.specs.Within.{Within, Held, round_within, add_within, mul_within}
use Rattle.elementary.specs.Elementary.{bits, add, sub, mul}

value_within : (x : Float) (s : Bool) (a c B : ℕ) → 0 < c → a ≤ B * c → HasValue x s a c → Within B x
value_within nan s a c B C h v = absurd v
value_within (inf t) s a c B C h v = absurd v
value_within (fin t m e) s a c B C h v =
    le_of_mul-le-mul_right (le_trans (le_of_eq v.1) (le_trans (mul-le-mul_right (down e) h) (le_of_eq (mul_right_comm B c (down e))))) C

-- each power of two up to 2 ^ 127 is an f32
held_power : (k : ℕ) → k < 128 → Held binary32 (2 ^ k)
held_power k h =
    round_exact binary32 false (2 ^ k) 1 1 (k + 149) (zero-lt-suc 0) (lit< tt)
    (subst (λ (n : ℕ). n < 2 ^ 277) (sym (one-mul (2 ^ (k + 149)))) (pow-lt {i = k + 149} {j = 277} (omega arith)))
    (sym (pow-add 2 k 149) ∙ sym (one-mul (2 ^ (k + 149))) ∙ sym (mul-one (1 * 2 ^ (k + 149))))

-- digits q and a field of x + 1, which is at most 127 + j
size_le : (j q x : ℕ) → q ≤ 2 ^ 24 → x ≤ 126 + j → q * 2 ^ x ≤ 2 ^ (j + 1) * 2 ^ 149
size_le j q x a b =
    let e : 24 + (126 + j) ≡ j + 1 + 149 = omega arith in
    le_trans (mul-le-mul a (pow_mono b)) (le_of_eq (sym (pow-add 2 24 (126 + j)) ∙ ap (λ (n : ℕ). 2 ^ n) e ∙ pow-add 2 (j + 1) 149))

fields_within : (j : ℕ) (s : Bool) (x t : ℕ) → j < 127 → x < 128 + j → t < 8388608 → Within (2 ^ (j + 1)) (of_fields binary32 s x t)
unfolding of_fields
fields_within j s zero t J h l = value_within (odd 24 s t 0 149) s (t * 2 ^ 0) (2 ^ 149) (2 ^ (j + 1)) (pow_pos 149) (size_le j t 0 (omega arith) (omega arith)) (odd_sign 24 s t 0 149)
fields_within j s (suc x) t J h l =
    rw (ne_eqb (suc x) 255 (λ e. omega arith))
    (value_within (odd 24 s (8388608 + t) x 149) s ((8388608 + t) * 2 ^ x) (2 ^ 149) (2 ^ (j + 1)) (pow_pos 149) (size_le j (8388608 + t) x (omega arith) (omega arith)) (odd_sign 24 s (8388608 + t) x 149))

-- a pattern whose exponent's field is at most 127 + j is at most 2 ^ (j + 1) in size
pub pattern_within : (j n : ℕ) → j < 127 → n < (128 + j) * 8388608 → Within (2 ^ (j + 1)) (bits n)
unfolding of_bits
pattern_within j n J h = fields_within j _ (n % 2147483648 / 8388608) (n % 8388608) J (omega arith) (omega arith)

neg_within : (B : ℕ) (x : Float) → Within B x → Within B (neg x)
unfolding neg
neg_within B nan p = p
neg_within B (inf s) p = p
neg_within B (fin s m e) p = p

-- ---- a float with a bound, and the operations on such: an expression put together from them has its bound with it
pub record Sized (B : ℕ) : Type 0 where
  pub value : Float
  pub bound : Within B value

-- 2 ^ k is an f32, and n is at most that
abbrev pub covers : ℕ → ℕ → Bool
covers k n = ltb k 128 && leb n (2 ^ k)

pub covers_held : (k n : ℕ) → T (covers k n) → Held binary32 (2 ^ k)
covers_held k n h = held_power k (ltb→lt k 128 (and_l (ltb k 128) (leb n (2 ^ k)) h))

pub covers_le : (k n : ℕ) → T (covers k n) → n ≤ 2 ^ k
covers_le k n h = leb→le n (2 ^ k) (and_r (ltb k 128) (leb n (2 ^ k)) h)

pub sub_within : (a b k : ℕ) (x y : Float) → T (covers k (a + b)) → Within a x → Within b y → Within (2 ^ k) (sub x y)
unfolding Ieee.sub
sub_within a b k x y h p q = add_within binary32 x (neg y) a b (2 ^ k) (covers_held k (a + b) h) (covers_le k (a + b) h) p (neg_within b y q)

pub whole_within : (k n : ℕ) → k < 128 → n ≤ 2 ^ k → Within (2 ^ k) (of_int binary32 (pos n))
unfolding of_int
whole_within k n h l = round_within binary32 false n 1 (2 ^ k) (zero-lt-suc 0) (held_power k h) (le_trans l (le_of_eq (sym (mul-one (2 ^ k)))))

abbrev pub whole : (k n : ℕ) → T (ltb k 128) → n ≤ 2 ^ k → Sized (2 ^ k)
whole k n h l = record { value = of_int binary32 (pos n); bound = whole_within k n (ltb→lt k 128 h) l }

abbrev pub pattern : (j n : ℕ) → T (ltb j 127) → n < (128 + j) * 8388608 → Sized (2 ^ (j + 1))
pattern j n h l = record { value = bits n; bound = pattern_within j n (ltb→lt j 127 h) l }

-- a constant below 2
abbrev pub small : (n : ℕ) → T (ltb n 0x4000_0000) → Sized 2
small n h = pattern 0 n tt (ltb→lt n 0x4000_0000 h)

module _ {a b : ℕ} (k : ℕ) where
  abbrev pub plus : T (covers k (a + b)) → Sized a → Sized b → Sized (2 ^ k)
  plus h x y = record {
    value = add x.value y.value;
    bound = add_within binary32 x.value y.value a b (2 ^ k) (covers_held k (a + b) h) (covers_le k (a + b) h) x.bound y.bound;
  }

  abbrev pub minus : T (covers k (a + b)) → Sized a → Sized b → Sized (2 ^ k)
  minus h x y = record { value = sub x.value y.value; bound = sub_within a b k x.value y.value h x.bound y.bound }

  abbrev pub times : T (covers k (a * b)) → Sized a → Sized b → Sized (2 ^ k)
  times h x y = record {
    value = mul x.value y.value;
    bound = mul_within binary32 x.value y.value a b (2 ^ k) (covers_held k (a * b) h) (covers_le k (a * b) h) x.bound y.bound;
  }
