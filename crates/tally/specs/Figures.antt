-- What the term report counts, over the lines' outcomes: each figure is a length, an end or a sum of a list of outcomes or of their subframes.
use Rattle.std.specs.Prelude.{ℕ, ◌+◌, min, max, ◌≡◌, refl, List, [], ◌∷◌, ◌++◌, map, Bool, cond, eqb, leb, ℤ, pos, negsuc, Float, length, get_or}
use Rattle.std.specs.Float.{nan}
use Rattle.sequence.specs.Lists as Lists
use Rattle.sequence.specs.Table.{table}
use Rattle.floats.specs.Floats.{quantise}
use Rattle.half.specs.declared.Clipped.{Clipped}
use Rattle.observation.specs.declared.Subframe.{Subframe}
use Rattle.tally.specs.declared.Clippings.{Clippings}
use Rattle.tally.specs.declared.Subframes.{Subframes}
use Rattle.tally.specs.declared.Tally.{Tally}

-- a line's outcome: its number, 0 where it is accepted, and then its subframes and what was clipped in each
pub record Outcome : Type 0 where
  pub number : ℕ
  pub subframes : List Subframe
  pub clipped : List Clipped

-- ---- counting
-- the elements that pass a test, and how many they are
unfoldable pub those : {A : Type 0} → (A → Bool) → List A → List A
those f [] = []
those f (x ∷ xs) = cond (f x) (x ∷ those f xs) (those f xs)

abbrev pub how_many : {A : Type 0} → (A → Bool) → List A → ℕ
how_many f xs = length (those f xs)

-- the largest and the smallest number of a list, 0 of an empty one
unfoldable pub largest : List ℕ → ℕ
largest [] = 0
largest (n ∷ ns) = max n (largest ns)

unfoldable pub smallest : List ℕ → ℕ
smallest [] = 0
smallest (n ∷ []) = n
smallest (n ∷ m ∷ more) = min n (smallest (m ∷ more))

of_three : (largest (5 ∷ 2 ∷ 7 ∷ []) ≡ 7) × (smallest (5 ∷ 2 ∷ 7 ∷ []) ≡ 2) × (largest [] ≡ 0) × (smallest [] ≡ 0)
unfolding largest smallest
of_three = (refl, refl, refl, refl)

-- ---- of the subframes
-- class, gain index and code gain are whole numbers that are reported as f32 (figures 11, 0 and 8): they are read back, and nothing is rounded (term_laws, Whole)
unfoldable pub whole : Float → ℕ
whole x = quantise 32767 x

unfoldable pub class : Subframe → ℕ
class s = whole (get_or s.figures 11 nan)

unfoldable pub gain_index_of : Subframe → ℕ
gain_index_of s = whole (get_or s.figures 0 nan)

unfoldable pub code_gain_of : Subframe → ℕ
code_gain_of s = whole (get_or s.figures 8 nan)

-- the lag's integer, which is never negative
unfoldable pub lag_of : ℤ → ℕ
lag_of (pos n) = n
lag_of (negsuc n) = 0

-- all figures of a list of subframes
unfoldable pub spread : List Subframe → Subframes
spread ss =
    record {
      n = length ss;
      classes = table (λ c. how_many (λ (s : Subframe). eqb (class s) c) ss) 6;
      lags = table (λ k. how_many (λ (s : Subframe). eqb (lag_of s.lag) (19 + k)) ss) 126;
      gain_indexes = table (λ g. how_many (λ (s : Subframe). eqb (gain_index_of s) g) ss) 128;
      largest = largest (map code_gain_of ss);
      smallest = smallest (map code_gain_of ss);
    }

-- the sums of what was clipped
unfoldable pub clippings : List Clipped → Clippings
clippings cs =
    record {
      prediction = Lists.tally (λ (c : Clipped). c.prediction) cs;
      mixing = Lists.tally (λ (c : Clipped). c.mixing) cs;
      synthesis = Lists.tally (λ (c : Clipped). c.synthesis) cs;
      output = Lists.tally (λ (c : Clipped). c.output) cs;
    }

-- of two subframes, each sum by its own kind
of_two : clippings (record { prediction = 1; mixing = 2; synthesis = 3; output = 80 } ∷ record { prediction = 10; mixing = 20; synthesis = 30; output = 80 } ∷ []) ≡ record { prediction = 11; mixing = 22; synthesis = 33; output = 160 }
unfolding clippings Lists.tally
of_two = refl

-- ---- of the lines
unfoldable pub subframes_of : List Outcome → List Subframe
subframes_of [] = []
subframes_of (o ∷ os) = o.subframes ++ subframes_of os

unfoldable pub clipped_of : List Outcome → List Clipped
clipped_of [] = []
clipped_of (o ∷ os) = o.clipped ++ clipped_of os

abbrev pub answered_with : ℕ → List Outcome → ℕ
answered_with number os = how_many (λ (o : Outcome). eqb o.number number) os

-- the tally of n lines with these outcomes
unfoldable pub tally : ℕ → List Outcome → Tally
tally n os =
    record {
      lines = n;
      accepted = answered_with 0 os;
      refused_6 = answered_with 6 os;
      refused_7 = answered_with 7 os;
      refused_9 = answered_with 9 os;
      subframes = spread (subframes_of os);
      clipped = clippings (clipped_of os);
    }

-- reading stops at so many lines, each `=` and each first `+` among them
abbrev pub LIMIT : ℕ
LIMIT = 4294967295

-- whether reading stopped
unfoldable pub full : Tally → Bool
full t = leb LIMIT t.lines
