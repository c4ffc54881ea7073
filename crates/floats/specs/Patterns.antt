-- A finite float's bit pattern, with the sign's bit taken off, tells its size in units of 2 ^ -149, the smallest, and a larger pattern is a larger size.
use Rattle.std.specs.Prelude.{◌≡◌, ℕ, zero, suc, ◌+◌, ◌*◌, ◌/◌, ◌%◌, ◌^◌, ◌<◌, ◌≤◌, Bool, cond, ◌⊎◌, ◌==◌, nat_le}
use Rattle.std.proofs.Common.{sym, ap, ◌∙◌, subst, inl, inr, lt_of_lt_of_le, le_trans, le_of_eq, eq-or-lt_of_le, mul-one, mul_assoc, mul-le-mul_right, mul-le-mul_left, mul-lt-mul_of_pos_right, arith, pow_pos, pow_mono, ne_eqb}
use Rattle.std.proofs.Math.Nat.{pow-succ'}
use Rattle.std.proofs.Math.Pow.{mod-mod-pow}
use Rattle.std.specs.Float.{inf, nan, binary32}
use Rattle.std.specs.Float.Ieee.{odd, of_bits, of_fields}
use Rattle.std.specs.Float.Ieee.Exact.{HasValue, odd_sign}

-- the size by the exponent's field and the digits
unfoldable pub steps_of : ℕ → ℕ → ℕ
steps_of zero t = t
steps_of (suc x) t = (8388608 + t) * 2 ^ x

-- the size of the float of a pattern below 2 ^ 31
abbrev pub units_of : ℕ → ℕ
units_of p = steps_of (p / 8388608) (p % 8388608)

below_next : (x t : ℕ) → t < 8388608 → steps_of x t < 8388608 * 2 ^ x
unfolding steps_of
below_next zero t h = omega arith
below_next (suc x) t h =
    lt_of_lt_of_le (mul-lt-mul_of_pos_right {m = 8388608 + t} {n = 8388608 * 2} (omega arith) (pow_pos x)) (le_of_eq (mul_assoc 8388608 2 (2 ^ x) ∙ ap (λ (z : ℕ). 8388608 * z) (sym (pow-succ' 2 x))))

at_least : (x y t : ℕ) → x < y → 8388608 * 2 ^ x ≤ steps_of y t
unfolding steps_of
at_least x zero t h = absurd (omega arith)
at_least x (suc y) t h = le_trans (mul-le-mul_left 8388608 (pow_mono {i = x} {j = y} (omega arith))) (mul-le-mul_right (2 ^ y) (omega arith))

more_digits : (x t u : ℕ) → t < u → steps_of x t < steps_of x u
unfolding steps_of
more_digits zero t u h = h
more_digits (suc x) t u h = mul-lt-mul_of_pos_right {m = 8388608 + t} {n = 8388608 + u} (omega arith) (pow_pos x)

pub units_up : (p q : ℕ) → p < q → units_of p < units_of q
units_up p q h = go (eq-or-lt_of_le {n = p / 8388608} {m = q / 8388608} (omega arith))
  where
    go : (p / 8388608 ≡ q / 8388608) ⊎ (p / 8388608 < q / 8388608) → units_of p < units_of q
    go (inl e) = subst (λ (x : ℕ). units_of p < steps_of x (q % 8388608)) e (more_digits (p / 8388608) (p % 8388608) (q % 8388608) (omega arith))
    go (inr l) = lt_of_lt_of_le (below_next (p / 8388608) (p % 8388608) (omega arith)) (at_least (p / 8388608) (q / 8388608) (q % 8388608) l)

fields_value : (s : Bool) (x t : ℕ) → x < 255 → HasValue (of_fields binary32 s x t) s (steps_of x t) (2 ^ 149)
unfolding of_fields steps_of
fields_value s zero t h = subst (λ (z : ℕ). HasValue (odd 24 s t 0 149) s z (2 ^ 149)) (mul-one t) (odd_sign 24 s t 0 149)
fields_value s (suc x) t h =
    subst (λ (b : Bool). HasValue (cond b (cond (t == 0) (inf s) nan) (odd 24 s (8388608 + t) x 149)) s ((8388608 + t) * 2 ^ x) (2 ^ 149))
    (sym (ne_eqb (suc x) 255 (λ e. omega arith))) (odd_sign 24 s (8388608 + t) x 149)

-- a pattern below the infinity's
pub pattern_value : (n : ℕ) → n % 0x8000_0000 < 0x7f80_0000 → HasValue (of_bits binary32 n) (nat_le 0x8000_0000 n) (units_of (n % 0x8000_0000)) (2 ^ 149)
unfolding of_bits
pattern_value n h =
    subst (λ (t : ℕ). HasValue (of_fields binary32 (nat_le 0x8000_0000 n) (n % 0x8000_0000 / 8388608) (n % 8388608)) (nat_le 0x8000_0000 n) (steps_of (n % 0x8000_0000 / 8388608) t) (2 ^ 149))
    (sym (mod-mod-pow n 8 23))
    (fields_value (nat_le 0x8000_0000 n) (n % 0x8000_0000 / 8388608) (n % 8388608) (omega arith))
