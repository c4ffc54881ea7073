-- What document 01's marked case 14 begins with, and further values worked out from the Rust, computed.
use Rattle.std.specs.Prelude.{◌≡◌, refl, [], ◌∷◌, pos, negsuc, replicate}
use Rattle.std.specs.Int.Count.{count_leading_zeros}
use Rattle.sequence.specs.Table.{table}
use Rattle.sequence.specs.Repeated.{repeated}
use Rattle.sequence.specs.Lists.{tally}
use Rattle.fixed.specs.Fixed.{residue, signed, wrap, clamp, fold, mul, mul_us, mul32x16, shift, exp, restoring_step, restoring_divide, size_reciprocal, signed_reciprocal, normalised_reciprocal, quotient}
use Rattle.fixed.specs.Fixed as Fixed
use Rattle.reflection.specs.Reflection.{residual, inverse, exponent, scale, difference, updated, update_all, step, tail, reflection_coefficients, zero_residual, zero_residuals_of}

-- 14: k = 4096, which is 1, leaves a residual of 0
pub residual_4096 : residual (pos 4096) ≡ pos 0
unfolding residual fold mul shift wrap signed residue
residual_4096 = refl

-- a first residual of zero, and a negative one
reflection_zero : reflection_coefficients (pos 12458 ∷ pos 12 ∷ negsuc 2200 ∷ negsuc 64 ∷ negsuc 0 ∷ pos 119 ∷ negsuc 17 ∷ pos 5 ∷ negsuc 48 ∷ negsuc 13133 ∷ pos 4096 ∷ []) ≡ pos 646 ∷ pos 166 ∷ negsuc 122 ∷ pos 650 ∷ pos 773 ∷ negsuc 26974 ∷ negsuc 4380 ∷ negsuc 3530 ∷ negsuc 13133 ∷ pos 4096 ∷ []
unfolding reflection_coefficients tail step update_all updated difference inverse exponent scale residual table repeated quotient Fixed.exponent normalised_reciprocal signed_reciprocal size_reciprocal restoring_divide restoring_step clamp exp fold mul mul_us mul32x16 shift wrap signed residue count_leading_zeros
reflection_zero = refl

reflection_lowest : reflection_coefficients (pos 4096 ∷ negsuc 32767 ∷ negsuc 32767 ∷ negsuc 32767 ∷ negsuc 32767 ∷ negsuc 32767 ∷ negsuc 32767 ∷ negsuc 32767 ∷ negsuc 32767 ∷ negsuc 32767 ∷ negsuc 32767 ∷ []) ≡ pos 255 ∷ pos 273 ∷ pos 293 ∷ pos 316 ∷ pos 343 ∷ pos 375 ∷ pos 414 ∷ pos 461 ∷ pos 520 ∷ negsuc 32767 ∷ []
unfolding reflection_coefficients tail step update_all updated difference inverse exponent scale residual table repeated quotient Fixed.exponent normalised_reciprocal signed_reciprocal size_reciprocal restoring_divide restoring_step clamp exp fold mul mul_us mul32x16 shift wrap signed residue count_leading_zeros
reflection_lowest = refl

-- of the nine residuals of these one, two and none are 0; the second set of LPC numbers is that of LSPs (1, 1, -1, 0, -65, 0, 107, 21925, 0, 0)
one_zero : zero_residuals_of (pos 12458 ∷ pos 12 ∷ negsuc 2200 ∷ negsuc 64 ∷ negsuc 0 ∷ pos 119 ∷ negsuc 17 ∷ pos 5 ∷ negsuc 48 ∷ negsuc 13133 ∷ pos 4096 ∷ []) ≡ 1
unfolding zero_residuals_of tally zero_residual tail step update_all updated difference inverse exponent scale residual table repeated quotient Fixed.exponent normalised_reciprocal signed_reciprocal size_reciprocal restoring_divide restoring_step clamp exp fold mul mul_us mul32x16 shift wrap signed residue count_leading_zeros
one_zero = refl

two_zeros : zero_residuals_of (pos 4096 ∷ negsuc 2745 ∷ pos 23216 ∷ negsuc 10983 ∷ negsuc 13633 ∷ negsuc 16476 ∷ negsuc 8162 ∷ negsuc 10984 ∷ pos 31422 ∷ negsuc 2745 ∷ pos 6832 ∷ []) ≡ 2
unfolding zero_residuals_of tally zero_residual tail step update_all updated difference inverse exponent scale residual table repeated quotient Fixed.exponent normalised_reciprocal signed_reciprocal size_reciprocal restoring_divide restoring_step clamp exp fold mul mul_us mul32x16 shift wrap signed residue count_leading_zeros
two_zeros = refl

no_zero : zero_residuals_of (pos 4096 ∷ replicate 10 (negsuc 32767)) ≡ 0
unfolding zero_residuals_of tally zero_residual tail step update_all updated difference inverse exponent scale residual table repeated quotient Fixed.exponent normalised_reciprocal signed_reciprocal size_reciprocal restoring_divide restoring_step clamp exp fold mul mul_us mul32x16 shift wrap signed residue count_leading_zeros
no_zero = refl
