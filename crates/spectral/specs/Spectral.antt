-- spectral.rs: the residual, the prediction and its spacing, the history, the quantised frequencies. A history is flat: the newest residual first, ten floats each.
use Rattle.std.specs.Prelude.{ℕ, zero, suc, ◌+◌, ◌-◌, ◌*◌, ◌%◌, max, Bool, cond, ℤ, pos, ltb, get_or, take, set, Float}
use mathlib.Core.List.{List, [], ◌∷◌, ◌++◌}
use Rattle.std.specs.Float.{nan, binary32}
use Rattle.std.specs.Float.Ieee.{add, mul, lt, le, of_int, of_bits}
use Rattle.floats.specs.Floats.{quantise}
use Rattle.tables.specs.Places.{LSF_MEAN, LSF_CB1}
use Rattle.tables.specs.Tables.{word, low, high, ma}
use Rattle.sequence.specs.Table.{table}
use Rattle.sequence.specs.Total.{total}

-- ---- the history at reset: three times the mean
unfoldable pub initial_at : List ℤ → ℕ → Float
initial_at words k = of_int binary32 (word words (LSF_MEAN + k % 10))

unfoldable pub initial : List ℤ → List Float
unfolding initial_at
initial words = table (initial_at words) 30

-- ---- the residual
-- five places from each of two codebooks
unfoldable pub stage2_at : List ℕ → ℕ → ℕ → ℕ → Float
stage2_at bytes stage2Low stage2High k = cond (ltb k 5) (low bytes stage2Low k) (high bytes stage2High (k - 5))

-- a word of the first stage's codebook, as a float, and the second stage's float
unfoldable pub residual_at : List ℤ → List ℕ → ℕ → ℕ → ℕ → ℕ → Float
unfolding stage2_at
residual_at words bytes stage1 stage2Low stage2High k =
    add binary32 (of_int binary32 (word words (LSF_CB1 + (stage1 * 10 + k)))) (stage2_at bytes stage2Low stage2High k)

unfoldable pub residual : List ℤ → List ℕ → ℕ → ℕ → ℕ → List Float
unfolding residual_at
residual words bytes stage1 stage2Low stage2High = table (residual_at words bytes stage1 stage2Low stage2High) 10

-- ---- the sum of four products, worked left to right, each operation rounded once
unfoldable pub sum_at : List Float → List Float → List ℕ → ℕ → ℕ → Float
sum_at history residual bytes mode k =
    add binary32
    (add binary32
    (add binary32 (mul binary32 (get_or residual k nan) (ma bytes mode 0 k)) (mul binary32 (get_or history k nan) (ma bytes mode 1 k)))
    (mul binary32 (get_or history (k + 10) nan) (ma bytes mode 2 k)))
    (mul binary32 (get_or history (k + 20) nan) (ma bytes mode 3 k))

unfoldable pub sums : List Float → List Float → List ℕ → ℕ → List Float
unfolding sum_at
sums history residual bytes mode = table (sum_at history residual bytes mode) 10

-- ---- the order
module _ {A : Type 0} (less : A → A → Bool) where
  -- x before the first that is not less
  unfoldable pub insert : A → List A → List A
  insert x [] = x ∷ []
  insert x (y ∷ ys) = cond (less y x) (y ∷ insert x ys) (x ∷ y ∷ ys)

  -- by insertion
  unfoldable pub sort : List A → List A
  unfolding insert
  sort [] = []
  sort (x ∷ xs) = insert x (sort xs)

-- ---- the spacing
-- Rust's a.max(b) and a.min(b), for a b that is no NaN
abbrev pub larger : Float → Float → Float
larger a b = cond (le b a) a b

abbrev pub smaller : Float → Float → Float
smaller a b = cond (le a b) a b

-- 41, 321 and 25,682
abbrev pub FLOOR : Float
FLOOR = of_bits binary32 0x4224_0000

abbrev pub GAP : Float
GAP = of_bits binary32 0x43a0_8000

abbrev pub CEILING : Float
CEILING = of_bits binary32 0x46c8_a400

-- the first at least 41, each other at least 321 above the one before it
unfoldable pub spaced_at : List Float → ℕ → Float
spaced_at l zero = larger (get_or l 0 nan) FLOOR
spaced_at l (suc k) = larger (get_or l (suc k) nan) (add binary32 (spaced_at l k) GAP)

-- and then the last at most 25,682
unfoldable pub spread : List Float → List Float
unfolding spaced_at
spread l = set (table (spaced_at l) 10) 9 (smaller (spaced_at l 9) CEILING)

-- ---- the prediction
unfoldable pub predict : List Float → List Float → List ℕ → ℕ → List Float
unfolding sums sort spread
predict history residual bytes mode = spread (sort lt (sums history residual bytes mode))

-- ---- the history
unfoldable pub push : List Float → List Float → List Float
push history residual = residual ++ take 20 history

-- ---- the quantised frequencies
-- the largest of the first n, each rounded to the nearest, a tie to the even, and clamped to 0..=25,682
unfoldable pub largest_of : List Float → ℕ → ℕ
largest_of lsf n = total (λ prior x. max x prior) 0 (λ k. quantise 25682 (get_or lsf k nan)) n

-- a running maximum, so that none falls
unfoldable pub quantise_lsf : List Float → List ℤ
unfolding largest_of
quantise_lsf lsf = table (λ k. pos (largest_of lsf (suc k))) 10
