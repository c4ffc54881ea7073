-- Marked case 11, and what `quantise` makes of the ends.
use Rattle.std.specs.Prelude.{◌≡◌, true, false, pos, negsuc, refl}
use Rattle.std.specs.Float.{nan, inf, fin, binary32}
use Rattle.std.specs.Float.Ieee.{of_bits}
use Rattle.floats.specs.Floats.{nearest_even, quantise}

-- 11: 2.5, which is 5 halves, rounds to 2, and 3.5 to 4
pub case_11 : (nearest_even (fin false 5 (negsuc 0)) ≡ 2) × (nearest_even (fin false 7 (negsuc 0)) ≡ 4)
unfolding nearest_even
case_11 = (refl, refl)

-- both are f32 numbers
halves : (of_bits binary32 0x4020_0000 ≡ fin false 5 (negsuc 0)) × (of_bits binary32 0x4060_0000 ≡ fin false 7 (negsuc 0))
unfolding of_bits
halves = (refl, refl)

-- 0.5 rounds to 0, the next float to 1; 25,681.5 and 25,682.5 to 25,682, and so does all above
around : (quantise 25682 (of_bits binary32 0x3f00_0000) ≡ 0) × (quantise 25682 (of_bits binary32 0x3f00_0001) ≡ 1) × (quantise 25682 (of_bits binary32 0x46c8_a300) ≡ 25682) × (quantise 25682 (of_bits binary32 0x46c8_a500) ≡ 25682)
unfolding quantise of_bits
around = (refl, refl, refl, refl)

-- a NaN, the infinities, -0, and the ends of an i16
ends : (quantise 32767 nan ≡ 0) × (quantise 32767 (inf true) ≡ 0) × (quantise 32767 (inf false) ≡ 32767) × (quantise 32767 (fin true 0 (pos 0)) ≡ 0)
unfolding quantise
ends = (refl, refl, refl, refl)

last : (quantise 32767 (of_bits binary32 0x46ff_fd00) ≡ 32766) × (quantise 32767 (of_bits binary32 0x46ff_fe00) ≡ 32767) × (quantise 32767 (of_bits binary32 0x5000_0000) ≡ 32767) × (quantise 32767 (of_bits binary32 0xbf00_0000) ≡ 0)
unfolding quantise of_bits
last = (refl, refl, refl, refl)
