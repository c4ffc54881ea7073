-- Marked cases 7 and 8, and the ceiling, which comes after the gaps.
use Rattle.std.specs.Prelude.{◌≡◌, refl, List, [], ◌∷◌, map, ℕ, ◌+◌, ◌*◌, ◌<◌, pos, get_or, replicate, Float}
use Rattle.std.proofs.Common.{ap, ◌∙◌, arith}
use Rattle.std.proofs.lemmas.List.{get_or-replicate}
use Rattle.std.specs.Float.{nan, binary32}
use Rattle.std.specs.Float.Ieee.{of_bits, of_int, to_unsigned, add, mul, lt, le}
use Rattle.floats.specs.Floats.{bits_at, quantise}
use Rattle.sequence.specs.Table.{table, table_same}
use Rattle.sequence.specs.Total.{total}
use Rattle.tables.specs.Places.{MA, BYTES}
use Rattle.spectral.specs.Spectral.{sum_at, sums, sort, spread, predict, quantise_lsf, CEILING}

predict_sums : (history residual : List Float) (bytes : List ℕ) (mode : ℕ) → predict history residual bytes mode ≡ spread (sort lt (sums history residual bytes mode))
unfolding predict
predict_sums history residual bytes mode = refl

-- 41, and each other 321 above the one before it
abbrev LSFS : List ℕ
LSFS = 41 ∷ 362 ∷ 683 ∷ 1004 ∷ 1325 ∷ 1646 ∷ 1967 ∷ 2288 ∷ 2609 ∷ 2930 ∷ []

-- n as an f32 number
abbrev float : ℕ → Float
float n = of_int binary32 (pos n)

spread_zeros : spread (sort lt (replicate 10 (float 0))) ≡ map float LSFS
unfolding spread sort table of_int of_bits add lt le
spread_zeros = refl

quantised_as_they_are : quantise_lsf (map float LSFS) ≡ map pos LSFS
unfolding quantise_lsf table total quantise of_int
quantised_as_they_are = refl

-- 7: a zero prediction gives 41, 362, up to 2930, and they are quantised as they are
pub case_7 : (history residual : List Float) (bytes : List ℕ) (mode : ℕ) → sums history residual bytes mode ≡ replicate 10 (float 0) → (predict history residual bytes mode ≡ map float LSFS) × (quantise_lsf (predict history residual bytes mode) ≡ map pos LSFS)
case_7 history residual bytes mode e =
    let p = predict_sums history residual bytes mode ∙ ap (λ (l : List Float). spread (sort lt l)) e ∙ spread_zeros in
    (p, ap quantise_lsf p ∙ quantised_as_they_are)

-- bytes that are all 0
no_bits : (at : ℕ) → at + 3 < BYTES → bits_at (replicate BYTES 0) at ≡ 0
unfolding bits_at
no_bits at h =
    rw (get_or-replicate {A = ℕ} BYTES at 0 0 (omega arith), get_or-replicate {A = ℕ} BYTES (at + 1) 0 0 (omega arith), get_or-replicate {A = ℕ} BYTES (at + 2) 0 0 (omega arith), get_or-replicate {A = ℕ} BYTES (at + 3) 0 0 h)

-- four products, each by a coefficient of 0
abbrev none_of : Float → Float → Float → Float → Float
none_of r x y z =
    let none = of_bits binary32 0 in
    add binary32 (add binary32 (add binary32 (mul binary32 r none) (mul binary32 x none)) (mul binary32 y none)) (mul binary32 z none)

no_sum : (history residual : List Float) (bytes : List ℕ) → ((at : ℕ) → at + 3 < BYTES → bits_at bytes at ≡ 0) → (k : ℕ) → k < 10 → sum_at history residual bytes 1 k ≡ none_of (get_or residual k nan) (get_or history k nan) (get_or history (k + 10) nan) (get_or history (k + 20) nan)
unfolding sum_at
no_sum history residual bytes e k h =
    rw (e (MA + 4 * (1 * 40 + 0 * 10 + k)) (omega arith), e (MA + 4 * (1 * 40 + 1 * 10 + k)) (omega arith), e (MA + 4 * (1 * 40 + 2 * 10 + k)) (omega arith), e (MA + 4 * (1 * 40 + 3 * 10 + k)) (omega arith))

none_worked : table (λ k. none_of (get_or (replicate 10 (float 8)) k nan) (get_or (replicate 30 (float 80)) k nan) (get_or (replicate 30 (float 80)) (k + 10) nan) (get_or (replicate 30 (float 80)) (k + 20) nan)) 10 ≡ replicate 10 (float 0)
unfolding table of_int of_bits add mul
none_worked = refl

-- there is one: coefficients that are all 0
pub zero_prediction : sums (replicate 30 (float 80)) (replicate 10 (float 8)) (replicate BYTES 0) 1 ≡ replicate 10 (float 0)
unfolding sums
zero_prediction = table_same (sum_at (replicate 30 (float 80)) (replicate 10 (float 8)) (replicate BYTES 0) 1) _ 10 (no_sum (replicate 30 (float 80)) (replicate 10 (float 8)) (replicate BYTES 0) no_bits) ∙ none_worked

-- 8: all ten 25,682 all quantise to 25,682, as they are and spread
pub case_8 : (quantise_lsf (replicate 10 (float 25682)) ≡ replicate 10 (pos 25682)) × (quantise_lsf (spread (replicate 10 (float 25682))) ≡ replicate 10 (pos 25682))
unfolding quantise_lsf spread table total quantise of_int of_bits add le
case_8 = (refl, refl)

-- ten 25,682 spread: the last alone is brought back, below the nine that the gaps have raised
ceiling_last : map (to_unsigned 16) (spread (replicate 10 CEILING)) ≡ (25682 ∷ 26003 ∷ 26324 ∷ 26645 ∷ 26966 ∷ 27287 ∷ 27608 ∷ 27929 ∷ 28250 ∷ 25682 ∷ [])
unfolding spread table to_unsigned of_bits add le
ceiling_last = refl

-- 3, -1, 2 sorted; of equal ones the first stays first
sorted_three : sort lt (map (λ (n : ℕ). of_bits binary32 n) (0x4040_0000 ∷ 0xbf80_0000 ∷ 0x4000_0000 ∷ [])) ≡ map (λ (n : ℕ). of_bits binary32 n) (0xbf80_0000 ∷ 0x4000_0000 ∷ 0x4040_0000 ∷ [])
unfolding sort of_bits lt
sorted_three = refl

zeros_stay : sort lt (map (λ (n : ℕ). of_bits binary32 n) (0 ∷ 0x8000_0000 ∷ [])) ≡ map (λ (n : ℕ). of_bits binary32 n) (0 ∷ 0x8000_0000 ∷ [])
unfolding sort of_bits lt
zeros_stay = refl
