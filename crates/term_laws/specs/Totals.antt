-- The figures of a report: what they sum to.
use Rattle.std.specs.Prelude.{ℕ, suc, ◌+◌, ◌*◌, ◌≡◌, cond, ◌&&◌, eqb, ℤ}
use Rattle.std.proofs.Math.Path.{refl, ap}
use Rattle.std.proofs.Common.{sym, ◌∙◌, zero-add}
use mathlib.Core.List.{List, [], ◌∷◌}
use Rattle.std.proofs.Math.Bool.{Bool, true, false}
use Rattle.std.proofs.Math.ListN.{length}
use Rattle.sequence.specs.All.{all, and_left, and_right}
use Rattle.sequence.specs.Table.{table, table_same}
use Rattle.tables.specs.Tables.{check}
use Rattle.spectral.specs.Kept.{Words16}
use Rattle.observation.specs.declared.Subframe.{Subframe}
use Rattle.state.specs.declared.State.{State}
use Rattle.state.specs.State.{reset, cold_start}
use Rattle.hex_lines.specs.Text.{is_only}
use Rattle.heard.specs.Recording.{event, line_step, is_start}
use Rattle.tally.specs.Figures.{how_many, class, gain_index_of, spread, tally}
use Rattle.term_steps.specs.Term.{is_end, outcome, outcomes, tally_of}
use Rattle.term_steps.specs.Steps.{walk}
use Rattle.term_steps.proofs.Steps.{all_walked}
use Rattle.term_laws.specs.Sums.{sum, in_range, counts_sum}
use Rattle.term_laws.specs.Outcomes.{placed, lag_in, outcomes_proper, numbers_sum, four_each, all_placed}

-- the lines apart from each `=` and each first `+`, where the next line is a recording's first or not
unfoldable pub apart : Bool → List (List ℕ) → List (List ℕ)
apart first [] = []
apart first (l ∷ ls) = cond (is_end l) (apart true ls) (cond (first && is_start l) (apart false ls) (l ∷ apart false ls))

-- of `+`, `+`, `=`, `+`, `7` the second and the last
two_left : apart true ((43 ∷ []) ∷ (43 ∷ []) ∷ (61 ∷ []) ∷ (43 ∷ []) ∷ (55 ∷ []) ∷ []) ≡ (43 ∷ []) ∷ (55 ∷ []) ∷ []
unfolding apart is_end is_start is_only
two_left = refl

-- each of them has an outcome
module _ (words : List ℤ) (bytes : List ℕ) where
  walk_long : (first : Bool) (s : State) (ls : List (List ℕ)) → length (walk words bytes first s ls) ≡ length (apart first ls)
  unfolding walk apart
  walk_long first s [] = refl
  walk_long first s (l ∷ ls) = by (is_end l) (first && is_start l) (walk_long true (cold_start words bytes).state ls) (walk_long false (reset words bytes).state ls) (walk_long false (line_step words bytes s l) ls)
    where
      Long : Bool → State → Type 0
      Long f t = length (walk words bytes f t ls) ≡ length (apart f ls)

      by : (ends opens : Bool) → Long true (cold_start words bytes).state → Long false (reset words bytes).state → Long false (line_step words bytes s l) → length (cond ends (walk words bytes true (cold_start words bytes).state ls) (cond opens (walk words bytes false (reset words bytes).state ls) (outcome words bytes s (event l) ∷ walk words bytes false (line_step words bytes s l) ls))) ≡ length (cond ends (apart true ls) (cond opens (apart false ls) (l ∷ apart false ls)))
      by true opens h j k = h
      by false true h j k = j
      by false false h j k = ap suc k

  outcomes_long : (ls : List (List ℕ)) → length (outcomes words bytes ls) ≡ length (apart true ls)
  outcomes_long ls = ap length (all_walked words bytes ls) ∙ walk_long true (cold_start words bytes).state ls

-- the three tables of a list of subframes that each have their places
all_so : {A : Type 0} (f g : A → Bool) → ((x : A) → f x ≡ true → g x ≡ true) → (xs : List A) → all f xs ≡ true → all g xs ≡ true
all_so f g h [] e = refl
all_so f g h (x ∷ xs) e = rw (h x (and_left (f x) (all f xs) e)) (all_so f g h xs (and_right (f x) (all f xs) e))

module _ (ss : List Subframe) (e : all placed ss ≡ true) where
  abbrev C : Subframe → Bool
  C = in_range class 0 6

  abbrev L : Subframe → Bool
  L = in_range lag_in 19 126

  abbrev G : Subframe → Bool
  G = in_range gain_index_of 0 128

  classes_all : all C ss ≡ true
  unfolding placed
  classes_all = all_so placed C (λ s p. and_left (C s) (L s && G s) p) ss e

  lags_all : all L ss ≡ true
  unfolding placed
  lags_all = all_so placed L (λ s p. and_left (L s) (G s) (and_right (C s) (L s && G s) p)) ss e

  indexes_all : all G ss ≡ true
  unfolding placed
  indexes_all = all_so placed G (λ s p. and_right (L s) (G s) (and_right (C s) (L s && G s) p)) ss e

  from_zero : (k : Subframe → ℕ) (n : ℕ) → table (λ c. how_many (λ (s : Subframe). eqb (k s) c) ss) n ≡ table (λ c. how_many (λ (s : Subframe). eqb (k s) (0 + c)) ss) n
  from_zero k n = table_same _ _ n (λ c p. ap (λ (d : ℕ). how_many (λ (s : Subframe). eqb (k s) d) ss) (sym (zero-add c)))

  pub classes_sum : sum (spread ss).classes ≡ length ss
  unfolding spread
  classes_sum = ap sum (from_zero class 6) ∙ counts_sum class 0 6 ss classes_all

  pub lags_sum : sum (spread ss).lags ≡ length ss
  unfolding spread
  lags_sum = counts_sum lag_in 19 126 ss lags_all

  pub indexes_sum : sum (spread ss).gain_indexes ≡ length ss
  unfolding spread
  indexes_sum = ap sum (from_zero gain_index_of 128) ∙ counts_sum gain_index_of 0 128 ss indexes_all

-- ---- THE THEOREMS, of any lines over a checked set
module _ (words : List ℤ) (bytes : List ℕ) (w : Words16 words) (checked : check words bytes ≡ 0) (ls : List (List ℕ)) where
  -- accepted and refused are the lines apart from each `=` and each first `+`: no line is refused with another number than 6, 7 and 9
  pub accepted_and_refused : (tally_of words bytes ls).accepted + (tally_of words bytes ls).refused_6 + (tally_of words bytes ls).refused_7 + (tally_of words bytes ls).refused_9 ≡ length (apart true ls)
  unfolding tally_of tally
  accepted_and_refused = numbers_sum (outcomes words bytes ls) (outcomes_proper words bytes w checked ls) ∙ outcomes_long words bytes ls

  -- each of the three tables sums to four times the accepted
  pub class_counts : sum (tally_of words bytes ls).subframes.classes ≡ 4 * (tally_of words bytes ls).accepted
  unfolding tally_of tally
  class_counts = let p = outcomes_proper words bytes w checked ls in classes_sum _ (all_placed (outcomes words bytes ls) p) ∙ four_each (outcomes words bytes ls) p

  pub lag_counts : sum (tally_of words bytes ls).subframes.lags ≡ 4 * (tally_of words bytes ls).accepted
  unfolding tally_of tally
  lag_counts = let p = outcomes_proper words bytes w checked ls in lags_sum _ (all_placed (outcomes words bytes ls) p) ∙ four_each (outcomes words bytes ls) p

  pub index_counts : sum (tally_of words bytes ls).subframes.gain_indexes ≡ 4 * (tally_of words bytes ls).accepted
  unfolding tally_of tally
  index_counts = let p = outcomes_proper words bytes w checked ls in indexes_sum _ (all_placed (outcomes words bytes ls) p) ∙ four_each (outcomes words bytes ls) p
