-- Document 01's marked cases 9, 10 and 14, and further values, computed.
use Rattle.std.specs.Prelude.{◌≡◌, refl, true, false, ◌^◌, ◌-◌, ◌*◌, pos, negsuc}
use Rattle.std.specs.Int.Count.{count_leading_zeros}
use Rattle.fixed.specs.Fixed.{residue, signed, wrap, clamp, acc, fold, sat, clips, trunc32, mul32x16, shift, exp, restoring_step, restoring_divide, size_reciprocal, signed_reciprocal, normalised_reciprocal}
use Rattle.fixed.specs.declared.Reciprocal.TheVariants.{Zero, Ordinary}

-- 9: the accumulator wraps, at the top and below the bottom
pub case_9 : acc (pos (2 ^ 39)) ≡ negsuc (2 ^ 39 - 1)
unfolding wrap signed residue
case_9 = refl

below_bottom : acc (negsuc (2 ^ 39)) ≡ pos (2 ^ 39 - 1)
unfolding wrap signed residue
below_bottom = refl

fold_top : fold (pos (2 ^ 39 - 1)) (pos 1) ≡ negsuc (2 ^ 39 - 1)
unfolding fold wrap signed residue
fold_top = refl

-- 10: the redundant sign bits
pub case_10 : exp (pos 64) ≡ pos 24
unfolding exp wrap signed residue count_leading_zeros
case_10 = refl

exp_zero : exp (pos 0) ≡ pos 0
unfolding exp wrap signed residue count_leading_zeros
exp_zero = refl

exp_minus_one : exp (negsuc 0) ≡ pos 31
unfolding exp wrap signed residue count_leading_zeros
exp_minus_one = refl

-- negative where more than 32 bits are needed
exp_wide : exp (pos (2 ^ 36)) ≡ negsuc 5
unfolding exp wrap signed residue count_leading_zeros
exp_wide = refl

-- 14: the reciprocal of zero, in whose steps the accumulator wraps; and of 2 ^ 40, of which the accumulator holds 0
pub case_14 : normalised_reciprocal (pos 0) ≡ Zero (pos (32736 * 65536)) (pos 1)
unfolding normalised_reciprocal signed_reciprocal size_reciprocal restoring_divide restoring_step clamp fold shift exp wrap signed residue count_leading_zeros
case_14 = refl

zero_wrapped : normalised_reciprocal (pos (2 ^ 40)) ≡ Zero (pos (32736 * 65536)) (pos 1)
unfolding normalised_reciprocal signed_reciprocal size_reciprocal restoring_divide restoring_step clamp fold shift exp wrap signed residue count_leading_zeros
zero_wrapped = refl

-- of -3, which is normalised by 29 bits: the high half of 3 · 2 ^ 29 is 24576, and 16383 · 2 ^ 15 / 24576 is 21844
reciprocal_minus_three : normalised_reciprocal (negsuc 2) ≡ Ordinary (negsuc (21844 * 65536 - 1)) (pos 30)
unfolding normalised_reciprocal signed_reciprocal size_reciprocal restoring_divide restoring_step clamp fold shift exp wrap signed residue count_leading_zeros
reciprocal_minus_three = refl

-- only `sat` saturates
sat_top : sat (pos (2 ^ 31)) ≡ pos (2 ^ 31 - 1)
unfolding clamp
sat_top = refl

sat_bottom : sat (negsuc (2 ^ 31)) ≡ negsuc (2 ^ 31 - 1)
unfolding clamp
sat_bottom = refl

-- saturation changes a number at neither end, and the next one beyond either
clips_top : (clips (pos (2 ^ 31 - 1)) ≡ false) × (clips (pos (2 ^ 31)) ≡ true)
unfolding clips clamp
clips_top = (refl, refl)

clips_bottom : (clips (negsuc (2 ^ 31 - 1)) ≡ false) × (clips (negsuc (2 ^ 31)) ≡ true)
unfolding clips clamp
clips_bottom = (refl, refl)

trunc32_top : trunc32 (pos (2 ^ 31)) ≡ negsuc (2 ^ 31 - 1)
unfolding wrap signed residue
trunc32_top = refl

-- -3 / 2 is -2
rounds_down : shift (negsuc 2) (negsuc 0) ≡ negsuc 1
unfolding shift wrap signed residue
rounds_down = refl

-- of an amount of -64 the low six bits are 0
shift_masked : shift (pos 5) (negsuc 63) ≡ pos 5
unfolding shift wrap signed residue
shift_masked = refl

-- -1 by one half is -1
half_of_minus_one : mul32x16 (negsuc 0) (pos 16384) ≡ negsuc 0
unfolding mul32x16 wrap signed residue
half_of_minus_one = refl

-- the largest product does not wrap: -2 ^ 31 by -1
largest_product : mul32x16 (negsuc (2 ^ 31 - 1)) (negsuc (2 ^ 15 - 1)) ≡ pos (2 ^ 31)
unfolding mul32x16 wrap signed residue
largest_product = refl
