-- The taps of one phase as the interpolation takes them: a window of 24 in the signal's order, twenty taps and four that are 0.
use Rattle.std.specs.Prelude.{Bool, ◌&&◌, ◌≡◌, List, ℕ, ◌+◌, ◌-◌, ◌*◌, ◌<◌, length, get_or, take, drop, ℤ, pos}
use Rattle.sequence.specs.Count.{count}
use Rattle.sequence.specs.Rewritten.{rewritten}
use Rattle.sequence.specs.Total.{total}
use Rattle.fixed.specs.Fixed.{fold, sat, clips, hi, mul}
use Rattle.products.specs.Runs.{small}
use Rattle.pitch.specs.Pitch.{mixed}

-- window w holds n taps of a phase on each side of the centre, the first side backwards, and behind the sides zeros
pub record Filled (taps : List ℤ) (phase n : ℕ) (w : List ℤ) : Type 0 where
  pub size : length w ≡ 24
  pub left : (k : ℕ) → k < n → get_or w (9 - k) (pos 0) ≡ get_or taps (phase + 3 * k) (pos 0)
  pub right : (k : ℕ) → k < n → get_or w (10 + k) (pos 0) ≡ get_or taps (3 - phase + 3 * k) (pos 0)
  pub rest : (k : ℕ) → k < 4 → get_or w (20 + k) (pos 0) ≡ pos 0

-- all ten of them
abbrev pub Windowed : List ℤ → ℕ → List ℤ → Type 0
Windowed taps phase w = Filled taps phase 10 w

-- that the last four of 24 are 0
abbrev pub Ended : List ℤ → Type 0
Ended w = (k : ℕ) → k < 4 → get_or w (20 + k) (pos 0) ≡ pos 0

-- the first sixteen are small, and the last eight: each of these runs is a sum of 32 bits
unfoldable pub narrow : List ℤ → Bool
narrow w = small (take 16 w) && small (drop 16 w)

-- the fractional product, and all 24 in the accumulator
unfoldable pub term : List ℤ → List ℤ → ℕ → ℕ → ℤ
term w signal from k = mul (get_or signal (from + k) (pos 0)) (get_or w k (pos 0))

unfoldable pub sample : List ℤ → List ℤ → ℕ → ℤ
sample w signal from = total fold (pos 0) (term w signal from) 24

-- by a window: a sample of the prediction, what is saturated for it, and at how many samples that changes it; and a sample of the sharpened innovation
unfoldable pub predicted : List ℤ → ℕ → ℕ → ℕ → List ℤ → ℤ
predicted w delay start n exc = hi (sat (fold (sample w exc (start + n - delay - 9)) (pos 32768)))

unfoldable pub predicted_sum : List ℤ → ℕ → ℕ → ℕ → List ℤ → ℤ
predicted_sum w delay start n exc = fold (sample w exc (start + n - delay - 9)) (pos 32768)

unfoldable pub clipped : List ℤ → ℕ → ℕ → List ℤ → ℕ
clipped w delay start exc = count (λ n. clips (predicted_sum w delay start n (rewritten (predicted w delay start) start exc n))) 80

unfoldable pub sharpened : List ℤ → ℕ → ℤ → ℕ → List ℤ → ℤ
sharpened w first gain n buf = mixed (sample w buf (2 + n)) gain (get_or buf (21 + first + n) (pos 0))
