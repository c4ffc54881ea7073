-- Document 01's marked case 15, and further values, computed.
use Rattle.std.specs.Prelude.{◌≡◌, refl, true, false, List, [], ◌∷◌, ◌++◌, ℤ, pos, negsuc, replicate}
use Rattle.sequence.specs.First.{first_from}
use Rattle.sequence.specs.Repeated.{repeated}
use Rattle.sequence.specs.Rewritten.{rewritten}
use Rattle.sequence.specs.Table.{table}
use Rattle.fixed.specs.Fixed.{residue, signed, wrap}
use Rattle.tables.specs.Bare.{bare_words, from_limit, from_bases, from_pulses, from_selectors, from_entries}
use Rattle.code_index.specs.Codebook.{cut, class_of, classify, added, quotient, remainder, above, digit, decompose, sum, place_shape, silence, place_pulse, place_pulses, alternative, innovation, decode, slots_fit, place_fits, digits_fit}

-- 15: of the bare set, index 0: ten pulses of 8192 at place 0, whose sum 81,920 wraps
pub case_15 : decode bare_words 0 ≡ record { code = pos 16384 ∷ replicate 79 (pos 0); class = 5 }
unfolding decode innovation alternative place_pulses place_pulse sum repeated classify class_of cut first_from wrap signed residue bare_words from_limit from_bases from_pulses from_selectors from_entries
case_15 = refl

-- its limit is 1: every index is cut to 0
cut_to_limit : cut bare_words 65535 ≡ 0
unfolding cut bare_words from_limit
cut_to_limit = refl

-- ---- a set whose every index below the last is of class 0, with the radix and the inverse of its two digits
unfoldable only : ℤ → ℤ → ℤ → ℤ → List ℤ
only radix₀ inverse₀ radix₁ inverse₁ =
    replicate 186 (pos 0) ++ negsuc 0 ∷ pos 0 ∷ negsuc 0 ∷ negsuc 0 ∷ negsuc 0 ∷ negsuc 0 ∷ negsuc 0 ∷ replicate 5 (pos 2) ++ replicate 15 (pos 0) ++ radix₀ ∷ radix₁ ∷ replicate 13 (pos 0) ++ inverse₀ ∷ inverse₁ ∷ replicate 613 (pos 0) ++ pos 5 ∷ pos 7 ∷ replicate 5118 (pos 0)

-- 2189 is 4 · (13 · 40 + 27) + 1: the digits 13 and 27, the first pulse added and the second subtracted
digits : decompose (only (pos 40) (pos 3277) (pos 40) (pos 3277)) 0 2189 ≡ pos 13 ∷ pos 27 ∷ pos 0 ∷ []
unfolding only decompose digit above quotient remainder repeated table wrap signed residue
digits = refl

signs : (added 2189 0 ≡ true) × (added 2189 1 ≡ false)
unfolding added
signs = (refl, refl)

-- an inverse that is rounded down leaves a digit of 40
too_large : digits_fit (only (pos 40) (pos 3277) (pos 40) (pos 3276)) 160 ≡ false
unfolding only digits_fit place_fits slots_fit classify class_of cut first_from decompose digit above quotient remainder repeated table wrap signed residue
too_large = refl

-- 16383 - 4095 · 4117 is -16,842,732, which passes 40 bits in the high half; wrapped to 16 bits it is 20, and the index is accepted
wrapped : digits_fit (only (pos 40) (pos 3277) (pos 4117) (pos 32767)) 65532 ≡ true
unfolding only digits_fit place_fits slots_fit classify class_of cut first_from decompose digit above quotient remainder repeated table wrap signed residue
wrapped = refl

wrapped_digits : decompose (only (pos 40) (pos 3277) (pos 4117) (pos 32767)) 0 65532 ≡ pos 15 ∷ pos 20 ∷ pos 0 ∷ []
unfolding only decompose digit above quotient remainder repeated table wrap signed residue
wrapped_digits = refl

-- of a shape that starts at 79 one sample is left, and at 80 none
last_place : place_shape (only (pos 0) (pos 0) (pos 0) (pos 0)) 0 79 false silence ≡ replicate 79 (pos 0) ++ negsuc 4 ∷ []
unfolding only place_shape rewritten sum wrap signed residue
last_place = refl

past_the_end : place_shape (only (pos 0) (pos 0) (pos 0) (pos 0)) 0 80 false silence ≡ silence
unfolding place_shape rewritten
past_the_end = refl
