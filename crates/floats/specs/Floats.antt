-- What is read out of f32 bytes and made of floats. A Float is lib.Ieee's: nan, an infinity, or `fin s m e`, the number m * 2 ^ e exactly, negative where s is true.
use Rattle.std.specs.Prelude.{◌≡◌, ℕ, ◌+◌, ◌*◌, min, Bool, true, false, cond, List, [], ◌∷◌, pos, nat_le, slice_index, refl, Float}
use Rattle.std.specs.Float.{nan, inf, fin, binary32}
use Rattle.std.specs.Float.Ieee.{up, down, of_bits}
use Rattle.std.specs.Float.Ieee.Nearest.{closest}

-- the number of the four bytes from a place on, the lowest first
unfoldable pub bits_at : List ℕ → ℕ → ℕ
bits_at b at = slice_index b at + slice_index b (at + 1) * 256 + slice_index b (at + 2) * 65536 + slice_index b (at + 3) * 16777216

-- the float that they are the bit pattern of
abbrev pub float_at : List ℕ → ℕ → Float
float_at b at = of_bits binary32 (bits_at b at)

-- x is finite and at most B in size: m * 2 ^ e ≤ B
unfoldable pub within : ℕ → Float → Bool
within B nan = false
within B (inf s) = false
within B (fin s m e) = nat_le (m * up e) (B * down e)

-- the whole number nearest to the size of x, a tie going to the even one
unfoldable pub nearest_even : Float → ℕ
nearest_even nan = 0
nearest_even (inf s) = 0
nearest_even (fin s m e) = closest (m * up e) (down e)

-- x rounded so and brought to 0..=top: 0 for a NaN and for all that is negative
unfoldable pub quantise : ℕ → Float → ℕ
unfolding nearest_even
quantise top nan = 0
quantise top (inf s) = cond s 0 top
quantise top (fin true m e) = 0
quantise top (fin false m e) = min (nearest_even (fin false m e)) top

-- the bytes of 1.0, behind another
one : float_at (7 ∷ 0 ∷ 0 ∷ 0x80 ∷ 0x3f ∷ []) 1 ≡ fin false 1 (pos 0)
unfolding bits_at of_bits
one = refl

-- both ends are within, the floats next to them are not
at_the_ends : (within 65536 (of_bits binary32 0x4780_0000) ≡ true) × (within 65536 (of_bits binary32 0xc780_0000) ≡ true) × (within 65536 (of_bits binary32 0x4780_0001) ≡ false) × (within 65536 (of_bits binary32 0xc780_0001) ≡ false)
unfolding within of_bits
at_the_ends = (refl, refl, refl, refl)
