-- Where a line leaves the decoder's state and the tally; and that many lines leave it at their tally.
use Prim.Native.Nat.{ℕ, zero, suc, ◌+◌, ◌-◌, ◌*◌, ◌≤◌, ◌<◌}
use Rattle.std.specs.Prelude.{◌≡◌, Bool, cond, ◌&&◌, eqb, leb, ℤ, take}
use Rattle.std.proofs.Math.Path.{refl, ap}
use Rattle.std.proofs.Common.{sym, ◌∙◌, add-zero}
use mathlib.Core.List.{List, [], ◌∷◌, ◌++◌, append_assoc, append-nil}
use Rattle.std.proofs.Math.Bool.{true, false}
use native.Mathlib.Omega.{arith}
use Rattle.std.proofs.Math.ListN.{length, length-append}
use Rattle.std.proofs.Math.Seq.{take-nil}
use borrow.Author.Tests.{leb-true, leb-false}
use Rattle.sequence.specs.Lists as Lists
use Rattle.half.specs.declared.Clipped.{Clipped}
use Rattle.half.specs.Clipped.{Within, first_within, second_within}
use Rattle.observation.specs.Frame as Frame
use Rattle.state.specs.declared.State.{State}
use Rattle.state.specs.State.{reset, cold_start}
use Rattle.calls.specs.Celp as Celp
use Rattle.calls.specs.Run.{Event, heard, missed, step}
use Rattle.stream.specs.Told.{after}
use Rattle.heard.specs.Recording.{event, line_step, is_start}
use Rattle.tally.specs.declared.Clippings.{Clippings}
use Rattle.tally.specs.declared.Tally.{Tally}
use Rattle.tally.specs.Figures.{Outcome, clippings, subframes_of, clipped_of, tally, LIMIT, full}
use Rattle.tally.specs.Carried.{with_outcome, uncounted}
use Rattle.tally.specs.Added.{AtMost, at_most_more, subframes_append, clipped_append, tally_more, tally_uncounted}
use Rattle.term_steps.specs.declared.Place.{Place}
use Rattle.term_steps.specs.Term.{is_end, answered, outcome}

abbrev pub place : Bool → State → Tally → Place
place first s t = record { first = first; state = s; tally = t }

-- the four sums of four subframes, of which each has at most 80
four_kinds : {a b c d : Clipped} → Within a → Within b → Within c → Within d → AtMost 320 (clippings (a ∷ b ∷ c ∷ d ∷ []))
unfolding clippings Lists.tally
four_kinds a b c d = record {
  prediction_le = omega (arith, a.prediction_le, b.prediction_le, c.prediction_le, d.prediction_le);
  mixing_le = omega (arith, a.mixing_le, b.mixing_le, c.mixing_le, d.mixing_le);
  synthesis_le = omega (arith, a.synthesis_le, b.synthesis_le, c.synthesis_le, d.synthesis_le);
  output_le = omega (arith, a.output_le, b.output_le, c.output_le, d.output_le);
}

pub no_kinds : (n : ℕ) → AtMost n (clippings [])
unfolding clippings Lists.tally
no_kinds n = record { prediction_le = omega arith; mixing_le = omega arith; synthesis_le = omega arith; output_le = omega arith }

none_within : Within Celp.unclipped
unfolding Celp.unclipped
none_within = record { prediction_le = omega arith; mixing_le = omega arith; synthesis_le = omega arith; output_le = omega arith }

at_most_up : {m n : ℕ} {t : Clippings} → AtMost m t → m ≤ n → AtMost n t
at_most_up a h = record { prediction_le = omega (arith, a.prediction_le); mixing_le = omega (arith, a.mixing_le); synthesis_le = omega (arith, a.synthesis_le); output_le = omega (arith, a.output_le) }

module _ (words : List ℤ) (bytes : List ℕ) where
  -- a call, counted
  unfoldable pub called : State → Tally → Event → Place
  called s t e = place false (step words bytes s e) (with_outcome t (outcome words bytes s e))

  unfoldable pub line_called : State → Tally → List ℕ → Place
  line_called s t line = called s t (event line)

  -- the end of a line: `=` ends a recording, and a first `+` opens one; both are lines that are read, and no figure has them
  unfoldable pub line_ended : Bool → State → Tally → List ℕ → Place
  line_ended first s t line =
      cond (full t) (place first s t)
      (cond (is_end line) (place true (cold_start words bytes).state (uncounted t))
      (cond (first && is_start line) (place false (reset words bytes).state (uncounted t)) (line_called s t line)))

  abbrev pub placed : Place → List ℕ → Place
  placed p line = line_ended p.first p.state p.tally line

  -- one that is full stays as it is
  pub full_stays : (first : Bool) (s : State) (t : Tally) (line : List ℕ) → full t ≡ true → line_ended first s t line ≡ place first s t
  unfolding line_ended
  full_stays first s t line e = rw e

  -- ---- the outcomes of all lines, one after the other, where the next line is a recording's first or not
  unfoldable pub walk : Bool → State → List (List ℕ) → List Outcome
  walk first s [] = []
  walk first s (l ∷ ls) =
      cond (is_end l) (walk true (cold_start words bytes).state ls)
      (cond (first && is_start l) (walk false (reset words bytes).state ls)
      (outcome words bytes s (event l) ∷ walk false (line_step words bytes s l) ls))

  -- decode answers four subframes, so an outcome has at most as many
  pub decode_four : (s : State) (payload : List ℕ) (room : ℕ) → length (Celp.decode words bytes s payload room).subframes ≡ 4
  unfolding Celp.decode Celp.answer Celp.accepted Celp.refused Celp.decoded Frame.decode Frame.report Frame.subframes
  decode_four s payload room = by (Celp.refusal words bytes s payload room)
    where
      by : (n : ℕ) → length (Celp.answer n words bytes s payload).subframes ≡ 4
      by zero = refl
      by (suc n) = refl

  few : (s : State) (e : Event) → length (outcome words bytes s e).subframes ≤ 4
  unfolding outcome answered
  few s missed = omega arith
  few s (heard payload room) = by (eqb (Celp.decode words bytes s payload room).number 0) (decode_four s payload room)
    where
      by : (t : Bool) → length (Celp.decode words bytes s payload room).subframes ≡ 4 → length (cond t (Celp.decode words bytes s payload room).subframes []) ≤ 4
      by true h = omega arith
      by false h = omega arith

  -- and no sum of what is clipped in them is above 320
  abbrev pub kind : List Clipped → Type 0
  kind cs = AtMost 320 (clippings cs)

  decode_clipped : (s : State) (payload : List ℕ) (room : ℕ) → kind (Celp.decode words bytes s payload room).clipped
  unfolding Celp.decode Celp.answer Celp.accepted Celp.refused Celp.decoded Frame.decode Frame.report Frame.clipped Frame.halves Frame.half
  decode_clipped s payload room = by (Celp.refusal words bytes s payload room)
    where
      by : (n : ℕ) → kind (Celp.answer n words bytes s payload).clipped
      by zero = four_kinds (first_within words bytes _ _ _) (second_within words bytes _ _ _) (first_within words bytes _ _ _) (second_within words bytes _ _ _)
      by (suc n) = four_kinds none_within none_within none_within none_within

  few_clipped : (s : State) (e : Event) → kind (outcome words bytes s e).clipped
  unfolding outcome answered
  few_clipped s missed = no_kinds 320
  few_clipped s (heard payload room) = by (eqb (Celp.decode words bytes s payload room).number 0) (decode_clipped s payload room)
    where
      by : (t : Bool) → kind (Celp.decode words bytes s payload room).clipped → kind (cond t (Celp.decode words bytes s payload room).clipped [])
      by true h = h
      by false h = no_kinds 320

  -- ---- THE COUNTS: carried on over any lines, they are those of the list
  abbrev pub left : ℕ → List (List ℕ) → List (List ℕ)
  left n ls = take (LIMIT - n) ls

  abbrev pub Added : Bool → State → ℕ → List Outcome → List (List ℕ) → Type 0
  Added first s n os ls = (after (placed) (place first s (tally n os)) ls).tally ≡ tally (n + length (left n ls)) (os ++ walk first s (left n ls))

  -- what lists keep to by line n
  pub record Kept (n : ℕ) (os : List Outcome) : Type 0 where
    pub lines_kept : n ≤ LIMIT
    pub outcomes_kept : length os ≤ n
    pub subframes_kept : length (subframes_of os) ≤ 4 * n
    pub clipped_kept : AtMost (320 * n) (clippings (clipped_of os))

  kept_end : {n : ℕ} {os : List Outcome} → Kept n os → n < LIMIT → Kept (n + 1) os
  kept_end k h = record { lines_kept = omega arith; outcomes_kept = omega (arith, k.outcomes_kept); subframes_kept = omega (arith, k.subframes_kept); clipped_kept = at_most_up k.clipped_kept (omega arith) }

  kept_more : {n : ℕ} {os : List Outcome} → Kept n os → n < LIMIT → (o : Outcome) → length o.subframes ≤ 4 → kind o.clipped → Kept (n + 1) (os ++ (o ∷ []))
  unfolding subframes_of clipped_of
  kept_more {n} {os} k h o f g =
      let l = length-append os (o ∷ []) in
      let m = ap length (subframes_append os (o ∷ [])) ∙ length-append (subframes_of os) (o.subframes ++ []) in
      let e = rw append-nil at m in
      let c : AtMost (320 * (n + 1)) (clippings (clipped_of os ++ o.clipped)) = at_most_more (clipped_of os) o.clipped k.clipped_kept g (omega arith) in
      record {
        lines_kept = omega arith;
        outcomes_kept = omega (arith, k.outcomes_kept);
        subframes_kept = omega (arith, k.subframes_kept);
        clipped_kept = rw (clipped_append os (o ∷ []), append-nil) c;
      }

  full_at : (n : ℕ) (os : List Outcome) → full (tally n os) ≡ leb LIMIT n
  unfolding full tally
  full_at n os = refl

  -- a line more, where it is shown of those that follow it
  module _ (ls : List (List ℕ)) (then : (first : Bool) (s : State) (n : ℕ) (os : List Outcome) → Kept n os → Added first s n os ls) (first : Bool) (s : State) (n : ℕ) (os : List Outcome) (k : Kept n os) (l : List ℕ) where
    abbrev o : Outcome
    o = outcome words bytes s (event l)

    more : (isFull ends opens : Bool) → full (tally n os) ≡ isFull → is_end l ≡ ends → first && is_start l ≡ opens → (after placed (placed (place first s (tally n os)) l) ls).tally ≡ tally (n + length (left n (l ∷ ls))) (os ++ walk first s (left n (l ∷ ls)))
    unfolding line_ended walk line_called called line_step
    more true ends opens e f g =
        let z : LIMIT - n ≡ 0 = let p = leb-true LIMIT n (sym (full_at n os) ∙ e) in omega arith in
        rw (e, then first s n os k, z)
    more false true opens e f g =
        let p = leb-false LIMIT n (sym (full_at n os) ∙ e) in
        let z : LIMIT - n ≡ suc (LIMIT - (n + 1)) = omega arith in
        let r : n + 1 + length (left (n + 1) ls) ≡ n + suc (length (left (n + 1) ls)) = omega arith in
        rw (e, f, tally_uncounted n os (omega arith), then true (cold_start words bytes).state (n + 1) os (kept_end k p), z, f, r)
    more false false true e f g =
        let p = leb-false LIMIT n (sym (full_at n os) ∙ e) in
        let z : LIMIT - n ≡ suc (LIMIT - (n + 1)) = omega arith in
        let r : n + 1 + length (left (n + 1) ls) ≡ n + suc (length (left (n + 1) ls)) = omega arith in
        rw (e, f, g, tally_uncounted n os (omega arith), then false (reset words bytes).state (n + 1) os (kept_end k p), z, f, g, r)
    more false false false e f g =
        let p = leb-false LIMIT n (sym (full_at n os) ∙ e) in
        let z : LIMIT - n ≡ suc (LIMIT - (n + 1)) = omega arith in
        let r : n + 1 + length (left (n + 1) ls) ≡ n + suc (length (left (n + 1) ls)) = omega arith in
        let q = few s (event l) in
        rw (e, f, g, tally_more n os o (omega arith) (omega (arith, k.outcomes_kept)) (omega (arith, k.subframes_kept)) (at_most_more (clipped_of os) o.clipped k.clipped_kept (few_clipped s (event l)) (omega (arith, k.lines_kept))), then false (step words bytes s (event l)) (n + 1) (os ++ (o ∷ [])) (kept_more k p o q (few_clipped s (event l))), z, f, g, r, append_assoc)

  pub carried : (ls : List (List ℕ)) (first : Bool) (s : State) (n : ℕ) (os : List Outcome) → Kept n os → Added first s n os ls
  unfolding after walk
  carried [] first s n os k = rw (take-nil {A = List ℕ} (LIMIT - n), append-nil, add-zero)
  carried (l ∷ ls) first s n os k = more ls (carried ls) first s n os k l (full (tally n os)) (is_end l) (first && is_start l) refl refl refl
