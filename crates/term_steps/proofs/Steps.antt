-- The outcomes of all lines are those of a walk along them; and many lines leave the tally at theirs.
use Prim.Native.Nat.{ℕ}
use Rattle.std.specs.Prelude.{◌≡◌, Bool, ℤ, take}
use Rattle.std.proofs.Math.Path.{refl, ap}
use Rattle.std.proofs.Common.{◌∙◌}
use mathlib.Core.List.{List, [], ◌∷◌, ◌++◌}
use Rattle.std.proofs.Math.Bool.{true, false}
use native.Mathlib.Omega.{arith}
use Rattle.std.proofs.Math.ListN.{length}
use Rattle.std.proofs.Math.Nat.{zero-add}
use Rattle.state.specs.declared.State.{State}
use Rattle.state.specs.State.{reset, cold_start}
use Rattle.stream.specs.Told.{after}
use Rattle.heard.specs.Recording.{event, line_step, is_start, opening}
use Rattle.tally.specs.Figures.{Outcome, subframes_of, clipped_of, tally, LIMIT}
use Rattle.term_steps.specs.Term.{is_end, recordings, outcome, outcomes_from, outcomes_of, joined, outcomes, tally_of}
use Rattle.term_steps.specs.Steps.{place, placed, walk, no_kinds, Kept, carried}

module _ (words : List ℤ) (bytes : List ℕ) where
  -- those of lines inside a recording, and from a recording's first on
  abbrev Inside : List (List ℕ) → Type 0
  Inside ls = (s : State) → outcomes_from words bytes s (recordings ls).first ++ joined words bytes (recordings ls).more ≡ walk words bytes false s ls

  abbrev First : List (List ℕ) → Type 0
  First ls = outcomes words bytes ls ≡ walk words bytes true (cold_start words bytes).state ls

  module _ (l : List ℕ) (ls : List (List ℕ)) (h : Inside ls) (k : First ls) where
    inside_more : Inside (l ∷ ls)
    unfolding walk outcomes_from recordings outcomes joined
    inside_more s = by (is_end l) refl
      where
        by : (t : Bool) → is_end l ≡ t → outcomes_from words bytes s (recordings (l ∷ ls)).first ++ joined words bytes (recordings (l ∷ ls)).more ≡ walk words bytes false s (l ∷ ls)
        by true e = rw e k
        by false e = rw e (ap (λ (os : List Outcome). outcome words bytes s (event l) ∷ os) (h (line_step words bytes s l)))

    first_more : First (l ∷ ls)
    unfolding walk outcomes_from recordings outcomes joined outcomes_of opening
    first_more = by (is_end l) (is_start l) refl refl
      where
        by : (t u : Bool) → is_end l ≡ t → is_start l ≡ u → outcomes words bytes (l ∷ ls) ≡ walk words bytes true (cold_start words bytes).state (l ∷ ls)
        by true u e f = rw e k
        by false true e f = rw (e, f) (h (reset words bytes).state)
        by false false e f = rw (e, f) (ap (λ (os : List Outcome). outcome words bytes (cold_start words bytes).state (event l) ∷ os) (h (line_step words bytes (cold_start words bytes).state l)))

  walked : (ls : List (List ℕ)) → Inside ls × First ls
  unfolding walk outcomes_from recordings outcomes joined outcomes_of opening
  walked [] = ((λ s. refl), refl)
  walked (l ∷ ls) = let w = walked ls in (inside_more l ls w.0 w.1, first_more l ls w.0 w.1)

  pub all_walked : (ls : List (List ℕ)) → First ls
  all_walked ls = (walked ls).1

  -- from an empty tally
  pub carried_all : (ls : List (List ℕ)) → (after (placed words bytes) (place true (cold_start words bytes).state (tally 0 [])) ls).tally ≡ tally_of words bytes (take LIMIT ls)
  unfolding tally_of subframes_of clipped_of
  carried_all ls =
      let k : Kept words bytes 0 [] = record { lines_kept = omega arith; outcomes_kept = omega arith; subframes_kept = omega arith; clipped_kept = no_kinds 0 } in
      carried words bytes ls true (cold_start words bytes).state 0 [] k ∙ rw (all_walked (take LIMIT ls), zero-add (length (take LIMIT ls)))
