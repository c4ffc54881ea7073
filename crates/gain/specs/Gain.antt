-- gain.rs: the code gain that a history of four log gains predicts, corrected by the index's, and the pitch gain; each float operation in the Rust's order, rounded once.
use Rattle.std.specs.Prelude.{◌≡◌, refl, List, [], ◌∷◌, ℕ, ◌+◌, ◌*◌, cond, ℤ, pos, negsuc, nat_abs, get_or, replicate, Float}
use Rattle.std.specs.Float.{nan, binary32}
use Rattle.std.specs.Float.Ieee.{le, of_bits, to_bits, of_int}
use Rattle.std.specs.Float.Ieee as Ieee
use Rattle.sequence.specs.Total.{total}
use Rattle.floats.specs.Floats.{quantise}
use Rattle.tables.specs.Tables.{pitch_gain_of, log_gain, gain_bias}
use Rattle.gain.specs.declared.CodeGainArgument.{CodeGainArgument}
use Rattle.gain.specs.declared.CodeGainArgument.TheVariants.{Below, Above, Within}
use Rattle.gain.specs.declared.Decoded.{Decoded}
use Rattle.elementary.specs.Elementary.{bits, add, sub, mul, div, ln, exp}

-- z * z, as a natural number
unfoldable pub square : ℤ → ℕ
square z = nat_abs z * nat_abs z

-- the sum of the squares of a code's eighty numbers
unfoldable pub squares : List ℤ → ℕ
unfolding total square
squares code = total ◌+◌ 0 (λ k. square (get_or code k (pos 0))) 80

-- that sum, rounded to f32 once, and then divided by 80
unfoldable pub energy : List ℤ → Float
unfolding squares
energy code = div (of_int binary32 (pos (squares code))) (bits 0x42a0_0000)

-- the larger of an energy and 1
unfoldable pub at_least_one : Float → Float
at_least_one e = cond (le (bits 0x3f80_0000) e) e (bits 0x3f80_0000)

-- ((v0 * 0.68 + v1 * 0.5) + v2 * 0.33) + v3 * 0.16
unfoldable pub weighted : List Float → Float
weighted v =
    add (add (add (mul (get_or v 0 nan) (bits 0x3f2e_147b)) (mul (get_or v 1 nan) (bits 0x3f00_0000))) (mul (get_or v 2 nan) (bits 0x3ea8_f5c3)))
    (mul (get_or v 3 nan) (bits 0x3e23_d70a))

-- the weighted history less half the logarithm of the energy, plus the bias
unfoldable pub prediction : List Float → Float → Float → Float
unfolding weighted ln at_least_one
prediction gains e bias = add (sub (weighted gains) (mul (bits 0x3f00_0000) (ln (at_least_one e)))) bias

-- The argument of the code gain's exponential: under -1, over 10.5, or within the two and carried.
-- The Rust takes the exponential of every argument. The sorting, which document 01 asks for, changes no gain: below -1 e ^ x is under 0.37 and rounds to 0,
-- above 10.5 it is over 36,315 and is brought to 32,767.
unfoldable pub argument : Float → CodeGainArgument
argument x = cond (le (bits 0xbf80_0000) x) (cond (le x (bits 0x4128_0000)) (Within x) Above) Below

-- the gain of each case
unfoldable pub code_gain_of : CodeGainArgument → ℕ
unfolding quantise exp
code_gain_of Below = 0
code_gain_of Above = 32767
code_gain_of (Within x) = quantise 32767 (exp x)

-- one subframe: both gains, and the history with the correction at its front and its last number gone
unfoldable pub step : List Float → Float → Float → Float → Float → Decoded
unfolding quantise code_gain_of argument prediction
step gains e pitch_gain_of correction bias = record {
  pitch_gain = pos (quantise 32767 pitch_gain_of);
  code_gain = pos (code_gain_of (argument (add (prediction gains e bias) correction)));
  gains = correction ∷ get_or gains 0 nan ∷ get_or gains 1 nan ∷ get_or gains 2 nan ∷ [];
}

-- the step of a gain index and a code, by the tables in the bytes
unfoldable pub decode : List ℕ → List Float → ℕ → List ℤ → Decoded
unfolding step energy
decode bytes gains index code = step gains (energy code) (pitch_gain_of bytes index) (log_gain bytes index) (gain_bias bytes)

-- mod.rs's figure: the weighted history, plus the bias, plus the correction
unfoldable pub amplitude : List ℕ → List Float → ℕ → Float
unfolding weighted
amplitude bytes gains index = add (add (weighted gains) (gain_bias bytes)) (log_gain bytes index)

-- the 128 log gains, summed in order from 0, divided by 128
unfoldable pub mean : List ℕ → Float
unfolding total
mean bytes = div (total add (bits 0) (log_gain bytes) 128) (bits 0x4300_0000)

-- the history at reset
unfoldable pub initial_history : List ℕ → List Float
unfolding mean
initial_history bytes = mean bytes ∷ mean bytes ∷ mean bytes ∷ mean bytes ∷ []

-- a code of eighty threes has the energy 9, one of eighty -32,768s the energy 2 ^ 30
energies : (energy (replicate 80 (pos 3)) ≡ bits 0x4110_0000) × (energy (replicate 80 (negsuc 32767)) ≡ bits 0x4e80_0000)
unfolding energy of_bits Ieee.div of_int
energies = (refl, refl)

-- the ends are within; the floats next to them are not
ends : (argument (bits 0xbf80_0000) ≡ Within (bits 0xbf80_0000)) × (argument (bits 0xbf80_0001) ≡ Below) × (argument (bits 0x4128_0000) ≡ Within (bits 0x4128_0000)) × (argument (bits 0x4128_0001) ≡ Above)
unfolding argument of_bits le
ends = (refl, refl, refl, refl)

-- from a history of zeros, with no energy: the gain is e ^ 0, and the correction comes in at the front
first : step (replicate 4 (bits 0)) (bits 0) (bits 0x4680_0100) (bits 0) (bits 0) ≡ record { pitch_gain = pos 16384; code_gain = pos 1; gains = replicate 4 (bits 0) }
unfolding step Ieee.add Ieee.sub Ieee.mul le of_bits to_bits of_int
first = refl
