-- The mark rule over any sequence of calls.
use Rattle.std.specs.Prelude.{ℕ, zero, suc, ◌+◌, ◌≤◌, min, ◌≡◌, refl, ◌⊎◌, ℤ, length}
use Rattle.std.proofs.Common.{sym, ◌∙◌, inl, inr}
use Rattle.std.proofs.Math.Path.{ap}
use mathlib.Core.List.{List, [], ◌∷◌, ◌++◌, append_assoc}
use Rattle.std.proofs.Math.Logic.{⊎_elim}
use native.Mathlib.Omega.{arith}
use Rattle.state.specs.declared.State.{State}
use Rattle.calls.specs.Celp.{refusal}
use Rattle.calls.specs.Run.{Event, heard, missed, step, run, run_append}
use Rattle.calls.specs.Mark.{mark_rises, mark_refused, mark_missed, Taken, AllTaken, Ends, EndsTwice}

module _ (words : List ℤ) (bytes : List ℕ) where
  mark_taken : (s : State) (e : Event) → Taken words bytes s e → (step words bytes s e).mark ≡ min (s.mark + 1) 2
  mark_taken s (heard payload room) h = mark_rises words bytes s payload room h
  mark_taken s missed h = absurd h

  -- from a state that obeys the rule the mark counts them, up to 2
  pub mark_counts : (s : State) (es : List Event) → s.mark ≤ 2 → AllTaken words bytes s es → (run words bytes s es).mark ≡ min (s.mark + length es) 2
  unfolding run
  mark_counts s [] m t = omega arith
  mark_counts s (e ∷ es) m t =
      let k = mark_taken s e t.0 in
      let r = mark_counts (step words bytes s e) es (omega arith) t.1 in
      r ∙ omega arith

  -- an event that is not an accepted frame leaves 0, so a mark above 0 tells of one
  pub mark_tells : (s : State) (e : Event) → ((step words bytes s e).mark ≡ 0) ⊎ Taken words bytes s e
  mark_tells s missed = inl (mark_missed words bytes s)
  mark_tells s (heard payload room) = by (refusal words bytes s payload room) refl
    where
      by : (n : ℕ) → refusal words bytes s payload room ≡ n → ((step words bytes s (heard payload room)).mark ≡ 0) ⊎ (refusal words bytes s payload room ≡ 0)
      by zero e = inr e
      by (suc n) e = inl (mark_refused words bytes s payload room (λ z. omega arith))

  last_of : (es : List Event) → (es ≡ []) ⊎ ((fs : List Event) × (e : Event) × (es ≡ fs ++ (e ∷ [])))
  last_of [] = inl refl
  last_of (e ∷ es) =
      ⊎_elim (λ (q : es ≡ []). inr ([], e, ap (λ (l : List Event). e ∷ l) q))
      (λ (w : (fs : List Event) × (d : Event) × (es ≡ fs ++ (d ∷ []))). inr (e ∷ w.0, w.1, ap (λ (l : List Event). e ∷ l) w.2))
      (last_of es)

  -- a mark above 0, from a state with mark 0, tells that the last event was an accepted frame
  pub mark_above : (s : State) (es : List Event) → s.mark ≡ 0 → ((run words bytes s es).mark ≡ 0 → ⊥) → Ends words bytes s es
  unfolding run
  mark_above s es z h = ⊎_elim none some (last_of es)
    where
      none : es ≡ [] → Ends words bytes s es
      none q = absurd (h (ap (λ (l : List Event). (run words bytes s l).mark) q ∙ z))

      some : ((fs : List Event) × (e : Event) × (es ≡ fs ++ (e ∷ []))) → Ends words bytes s es
      some w =
          let t = run words bytes s w.0 in
          let r : run words bytes s es ≡ step words bytes t w.1 = ap (run words bytes s) w.2 ∙ run_append words bytes s w.0 (w.1 ∷ []) in
          ⊎_elim (λ (e : (step words bytes t w.1).mark ≡ 0). absurd (h (ap (λ (x : State). x.mark) r ∙ e)))
          (λ (k : Taken words bytes t w.1). record { past = w.0; last = w.1; are = w.2; taken = k; leaves = r })
          (mark_tells t w.1)

  -- and a mark of 2 that the last two were
  pub mark_two : (s : State) (es : List Event) → s.mark ≡ 0 → (run words bytes s es).mark ≡ 2 → EndsTwice words bytes s es
  mark_two s es z m =
      let a = mark_above s es z (λ e. omega arith) in
      let t = run words bytes s a.past in
      let k : min (t.mark + 1) 2 ≡ 2 = sym (mark_taken t a.last a.taken) ∙ ap (λ (x : State). x.mark) (sym a.leaves) ∙ m in
      let b = mark_above s a.past z (λ e. omega arith) in
      record {
        past = b.past;
        first = b.last;
        second = a.last;
        are = a.are ∙ ap (λ (l : List Event). l ++ (a.last ∷ [])) b.are ∙ append_assoc b.past (b.last ∷ []) (a.last ∷ []);
        first_taken = b.taken;
        second_taken = rw b.leaves at a.taken;
      }
