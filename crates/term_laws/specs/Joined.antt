-- Recordings are independent: of two inputs that are joined by a line `=`, each count is the sum, and each end the end of both.
use Rattle.std.specs.Prelude.{ℕ, ◌+◌, ◌<◌, min, max, ◌≡◌, Bool, ◌&&◌, ℤ, length, get_or}
use Rattle.std.proofs.Math.Path.{refl}
use Rattle.std.proofs.Common.{ap, ◌∙◌, arith}
use mathlib.Core.List.{List, [], ◌∷◌, ◌++◌, append-nil, map, map-append}
use Rattle.std.proofs.Math.Bool.{true, false}
use Rattle.std.proofs.Math.ListN.{length-append}
use Rattle.sequence.specs.Table.{table, get_or_table}
use Rattle.observation.specs.declared.Subframe.{Subframe}
use Rattle.state.specs.declared.State.{State}
use Rattle.state.specs.State.{reset, cold_start}
use Rattle.heard.specs.Recording.{event, line_step, is_start, opening}
use Rattle.tally.specs.declared.Subframes.{Subframes}
use Rattle.tally.specs.declared.Tally.{Tally}
use Rattle.tally.specs.Figures.{Outcome, how_many, largest, smallest, code_gain_of, spread, subframes_of, clipped_of, tally}
use Rattle.tally.specs.Added.{BothClippings, many_append, largest_append, smallest_append, clippings_append, subframes_append, clipped_append}
use Rattle.term_steps.specs.Term.{is_end, recordings, outcome, outcomes_from, outcomes_of, joined, outcomes, tally_of}
use Rattle.term_steps.specs.Steps.{walk}
use Rattle.term_steps.proofs.Steps.{all_walked}

-- counts of both, place by place
abbrev pub Added : ℕ → List ℕ → List ℕ → List ℕ → Type 0
Added n a b both = (k : ℕ) → k < n → get_or both k 0 ≡ get_or a k 0 + get_or b k 0

-- the subframes of both: where one has none, the ends are the other's
pub record BothSubframes (a b both : Subframes) : Type 0 where
  pub n_is : both.n ≡ a.n + b.n
  pub classes_are : Added 6 a.classes b.classes both.classes
  pub lags_are : Added 126 a.lags b.lags both.lags
  pub indexes_are : Added 128 a.gain_indexes b.gain_indexes both.gain_indexes
  pub largest_is : both.largest ≡ max a.largest b.largest
  pub smallest_is : 0 < a.n → 0 < b.n → both.smallest ≡ min a.smallest b.smallest
  pub smallest_first : b.n ≡ 0 → both.smallest ≡ a.smallest
  pub smallest_second : a.n ≡ 0 → both.smallest ≡ b.smallest

-- the tally of both, with the line between them
pub record Both (a b both : Tally) : Type 0 where
  pub lines_are : both.lines ≡ a.lines + b.lines + 1
  pub accepted_is : both.accepted ≡ a.accepted + b.accepted
  pub six : both.refused_6 ≡ a.refused_6 + b.refused_6
  pub seven : both.refused_7 ≡ a.refused_7 + b.refused_7
  pub nine : both.refused_9 ≡ a.refused_9 + b.refused_9
  pub subframes_are : BothSubframes a.subframes b.subframes both.subframes
  pub clipped_are : BothClippings a.clipped b.clipped both.clipped

-- ---- subframes
counts_added : {A : Type 0} (test : ℕ → A → Bool) (n : ℕ) (xs ys : List A) → Added n (table (λ c. how_many (test c) xs) n) (table (λ c. how_many (test c) ys) n) (table (λ c. how_many (test c) (xs ++ ys)) n)
counts_added test n xs ys k h =
    rw (get_or_table (λ c. how_many (test c) (xs ++ ys)) n k 0 h, get_or_table (λ c. how_many (test c) xs) n k 0 h, get_or_table (λ c. how_many (test c) ys) n k 0 h)
    (many_append (test k) xs ys)

smallest_both : (ss rs : List Subframe) → 0 < length ss → 0 < length rs → smallest (map code_gain_of (ss ++ rs)) ≡ min (smallest (map code_gain_of ss)) (smallest (map code_gain_of rs))
smallest_both [] rs p q = absurd (omega arith)
smallest_both (s ∷ ss) [] p q = absurd (omega arith)
smallest_both (s ∷ ss) (r ∷ rs) p q = rw (map-append code_gain_of ss (r ∷ rs)) (smallest_append (code_gain_of s) (map code_gain_of ss) (code_gain_of r) (map code_gain_of rs))

none_behind : (ss rs : List Subframe) → length rs ≡ 0 → ss ++ rs ≡ ss
none_behind ss [] e = append-nil ss
none_behind ss (r ∷ rs) e = absurd (omega arith)

none_before : (ss rs : List Subframe) → length ss ≡ 0 → ss ++ rs ≡ rs
none_before [] rs e = refl
none_before (s ∷ ss) rs e = absurd (omega arith)

spread_both : (ss rs : List Subframe) → BothSubframes (spread ss) (spread rs) (spread (ss ++ rs))
unfolding spread
spread_both ss rs =
    record {
      n_is = length-append ss rs;
      classes_are = counts_added _ 6 ss rs;
      lags_are = counts_added _ 126 ss rs;
      indexes_are = counts_added _ 128 ss rs;
      largest_is = ap largest (map-append code_gain_of ss rs) ∙ largest_append (map code_gain_of ss) (map code_gain_of rs);
      smallest_is = smallest_both ss rs;
      smallest_first = λ e. ap (λ (l : List Subframe). smallest (map code_gain_of l)) (none_behind ss rs e);
      smallest_second = λ e. ap (λ (l : List Subframe). smallest (map code_gain_of l)) (none_before ss rs e);
    }

-- ---- outcomes
module _ (words : List ℤ) (bytes : List ℕ) where
  abbrev Joins : Bool → State → List (List ℕ) → List ℕ → List (List ℕ) → Type 0
  Joins first s xs end ys = walk words bytes first s (xs ++ (end ∷ ys)) ≡ walk words bytes first s xs ++ walk words bytes true (cold_start words bytes).state ys

  walk_joined : (first : Bool) (s : State) (xs : List (List ℕ)) (end : List ℕ) (ys : List (List ℕ)) → is_end end ≡ true → Joins first s xs end ys
  unfolding walk
  walk_joined first s [] end ys e = rw e
  walk_joined first s (x ∷ xs) end ys e = by (is_end x) (first && is_start x) refl refl (walk_joined true (cold_start words bytes).state xs end ys e) (walk_joined false (reset words bytes).state xs end ys e) (walk_joined false (line_step words bytes s x) xs end ys e)
    where
      by : (ends opens : Bool) → is_end x ≡ ends → first && is_start x ≡ opens → Joins true (cold_start words bytes).state xs end ys → Joins false (reset words bytes).state xs end ys → Joins false (line_step words bytes s x) xs end ys → Joins first s (x ∷ xs) end ys
      by true opens f g h j k = rw f h
      by false true f g h j k = rw (f, g) j
      by false false f g h j k = rw (f, g) (ap (λ (os : List Outcome). outcome words bytes s (event x) ∷ os) k)

  outcomes_joined : (xs : List (List ℕ)) (end : List ℕ) (ys : List (List ℕ)) → is_end end ≡ true → outcomes words bytes (xs ++ (end ∷ ys)) ≡ outcomes words bytes xs ++ outcomes words bytes ys
  outcomes_joined xs end ys e = rw (all_walked words bytes (xs ++ (end ∷ ys)), all_walked words bytes xs, all_walked words bytes ys) (walk_joined true (cold_start words bytes).state xs end ys e)

  -- THE THEOREM
  pub recordings_independent : (xs : List (List ℕ)) (end : List ℕ) (ys : List (List ℕ)) → is_end end ≡ true → Both (tally_of words bytes xs) (tally_of words bytes ys) (tally_of words bytes (xs ++ (end ∷ ys)))
  unfolding tally_of tally
  recordings_independent xs end ys e =
      let l = length-append xs (end ∷ ys) in
      let o = outcomes_joined xs end ys e in
      rw o (record {
        lines_are = omega arith;
        accepted_is = many_append _ (outcomes words bytes xs) (outcomes words bytes ys);
        six = many_append _ (outcomes words bytes xs) (outcomes words bytes ys);
        seven = many_append _ (outcomes words bytes xs) (outcomes words bytes ys);
        nine = many_append _ (outcomes words bytes xs) (outcomes words bytes ys);
        subframes_are = rw (subframes_append (outcomes words bytes xs) (outcomes words bytes ys)) (spread_both (subframes_of (outcomes words bytes xs)) (subframes_of (outcomes words bytes ys)));
        clipped_are = rw (clipped_append (outcomes words bytes xs) (outcomes words bytes ys)) (clippings_append (clipped_of (outcomes words bytes xs)) (clipped_of (outcomes words bytes ys)));
      })

-- ---- of no input
pub no_lines : (words : List ℤ) (bytes : List ℕ) → tally_of words bytes [] ≡ tally 0 []
unfolding tally_of outcomes recordings joined outcomes_of outcomes_from opening
no_lines words bytes = refl
