-- Each of the 158 frame bits serves one field: the table has 158 places, all below 158, and each number below 158 once.
use Rattle.std.specs.Prelude.{◌≡◌, refl, true, not, List, [], ◌∷◌, ℕ, ◌+◌, ◌≤◌, ◌<◌, ltb, leb, eqb, length, get_or}
use Rattle.std.proofs.Common.{arith, eqb-true, ltb-true, leb-true}
use Rattle.std.proofs.lemmas.Bool.{not-false}
use Rattle.sequence.specs.First.{first, first_from, first_before}
use Rattle.sequence.specs.All.{all, all_at}
use Rattle.bits.specs.Bits.{groups, places, widths, one_if}

-- how often i is in the list
abbrev pub count : ℕ → List ℕ → ℕ
count i [] = 0
count i (j ∷ js) = one_if (eqb i j) + count i js

-- ---- the table

pub places_count : length places ≡ 158
unfolding places groups
places_count = refl

below : all (λ i. ltb i 158) places ≡ true
unfolding places groups
below = refl

pub place_below : (k : ℕ) → k < 158 → get_or places k 0 < 158
place_below k h = ltb-true (get_or places k 0) 158 (all_at (λ i. ltb i 158) places 0 below k (omega (arith, places_count)))

once : first (λ i. not (eqb (count i places) 1)) 158 ≡ 158
unfolding places groups first_from
once = refl

pub place_once : (i : ℕ) → i < 158 → count i places ≡ 1
place_once i h = eqb-true (count i places) 1 (not-false (eqb (count i places) 1) (first_before (λ j. not (eqb (count j places) 1)) 158 i (rw once h)))

pub groups_count : length groups ≡ 24
unfolding groups
groups_count = refl

pub widths_count : length widths ≡ 24
unfolding widths groups
widths_count = refl

narrow : all (λ w. leb w 16) widths ≡ true
unfolding widths groups
narrow = refl

pub width_le : (k : ℕ) → k < 24 → get_or widths k 0 ≤ 16
width_le k h = leb-true (get_or widths k 0) 16 (all_at (λ w. leb w 16) widths 0 narrow k (omega (arith, widths_count)))
