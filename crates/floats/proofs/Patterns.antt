-- What a bit pattern says once the sign's bit is taken off: above the infinity's it is a NaN's, and up to that of 65,536.0 the float is within 65,536.
use Rattle.std.proofs.Common.{◌≡◌, ℕ, ◌*◌, ◌/◌, ◌%◌, ◌^◌, ◌<◌, ◌≤◌, Bool, true, false, cond, eqb, leb, ◌⊎◌, sym, refl, ap, ◌∙◌, inl, inr, le_trans, le_of_eq, lt_of_lt_of_le, lt_of_le_of_lt, le_of_lt, mul-le-mul_right, lt_of_mul-lt-mul_right, eq-or-lt_of_le, mul-lt-mul_of_pos_right, mul_right_comm, le_of_mul-le-mul_right, arith, pow_pos, le-leb, leb-false, leb-true}
use borrow.Author.Tests.{lt-leb}
use lib.Ieee.{Float, nan, inf, fin, binary32, up, down, of_bits, of_fields}
use lib.Ieee.Fits.{down_pos}
use lib.Ieee.Exact.{HasValue}
use Rattle.floats.specs.Floats.{within}
use Rattle.floats.specs.Patterns.{steps_of, units_of, units_up, pattern_value}

-- a float by its fraction a / c
by_fraction : (B : ℕ) (x : Float) (s : Bool) (a c : ℕ) → 0 < c → HasValue x s a c → within B x ≡ leb a (B * c)
unfolding within
by_fraction B nan s a c C v = absurd v
by_fraction B (inf t) s a c C v = absurd v
by_fraction B (fin t m e) s a c C v = go (leb a (B * c)) refl
  where
    go : (t : Bool) → leb a (B * c) ≡ t → leb (m * up e) (B * down e) ≡ t
    go true h =
        le-leb (m * up e) (B * down e)
        (le_of_mul-le-mul_right (le_trans (le_of_eq v.1) (le_trans (mul-le-mul_right (down e) (leb-true a (B * c) h)) (le_of_eq (mul_right_comm B c (down e))))) C)
    go false h =
        lt-leb (m * up e) (B * down e)
        (lt_of_mul-lt-mul_right c (lt_of_le_of_lt (le_of_eq (mul_right_comm B (down e) c)) (lt_of_lt_of_le (mul-lt-mul_of_pos_right (leb-false a (B * c) h) (down_pos e)) (le_of_eq (sym v.1)))))

-- the size of the pattern 0x4780_0000 is that of 65,536
top_size : units_of 0x4780_0000 ≡ 65536 * 2 ^ 149
unfolding steps_of
top_size = refl

as_units : (p : ℕ) → leb p 0x4780_0000 ≡ leb (units_of p) (65536 * 2 ^ 149)
as_units p = go (leb p 0x4780_0000) refl
  where
    at_most : (p ≡ 0x4780_0000) ⊎ (p < 0x4780_0000) → units_of p ≤ units_of 0x4780_0000
    at_most (inl e) = le_of_eq (ap units_of e)
    at_most (inr l) = le_of_lt (units_up p 0x4780_0000 l)

    go : (t : Bool) → leb p 0x4780_0000 ≡ t → t ≡ leb (units_of p) (65536 * 2 ^ 149)
    go true h = sym (le-leb (units_of p) (65536 * 2 ^ 149) (le_trans (at_most (eq-or-lt_of_le (leb-true p 0x4780_0000 h))) (le_of_eq top_size)))
    go false h = sym (lt-leb (units_of p) (65536 * 2 ^ 149) (lt_of_le_of_lt (le_of_eq (sym top_size)) (units_up 0x4780_0000 p (leb-false p 0x4780_0000 h))))

-- an infinity or a NaN
beyond : (n : ℕ) → 0x7f80_0000 ≤ n % 0x8000_0000 → within 65536 (of_bits binary32 n) ≡ false
unfolding of_bits of_fields within
beyond n h =
    let x : n % 0x8000_0000 / 8388608 ≡ 255 = omega arith in
    rw x (either (eqb (n % 8388608) 0))
  where
    either : (b : Bool) → within 65536 (cond b (inf (leb 0x8000_0000 n)) nan) ≡ false
    either true = refl
    either false = refl

pub bits_within : (n : ℕ) → leb (n % 0x8000_0000) 0x4780_0000 ≡ within 65536 (of_bits binary32 n)
bits_within n = go (leb 0x7f80_0000 (n % 0x8000_0000)) refl
  where
    go : (t : Bool) → leb 0x7f80_0000 (n % 0x8000_0000) ≡ t → leb (n % 0x8000_0000) 0x4780_0000 ≡ within 65536 (of_bits binary32 n)
    go true h =
        let l : 0x7f80_0000 ≤ n % 0x8000_0000 = leb-true 0x7f80_0000 (n % 0x8000_0000) h in
        lt-leb (n % 0x8000_0000) 0x4780_0000 (omega arith) ∙ sym (beyond n l)
    go false h =
        as_units (n % 0x8000_0000)
        ∙ sym (by_fraction 65536 (of_bits binary32 n) (leb 0x8000_0000 n) (units_of (n % 0x8000_0000)) (2 ^ 149) (pow_pos 149) (pattern_value n (leb-false 0x7f80_0000 (n % 0x8000_0000) h)))
