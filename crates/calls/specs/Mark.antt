-- The mark rule, of one call and over any sequence of calls.
use Rattle.std.specs.Prelude.{ℕ, zero, suc, ◌+◌, min, ◌≡◌, refl, ℤ}
use mathlib.Core.List.{List, [], ◌∷◌, ◌++◌}
use Rattle.state.specs.declared.State.{State}
use Rattle.tables.specs.Tables.{check}
use Rattle.state.specs.State.{fallen, initial, started_by, started, reset, cold_start}
use Rattle.state.specs.Start.{missed_mark}
use Rattle.calls.specs.Celp.{refusal, raised, refused, accepted, next, answer, decode}
use Rattle.calls.specs.Run.{Event, heard, missed, step, run}

module _ (words : List ℤ) (bytes : List ℕ) where
  -- ---- where a decoder starts
  -- reset of an accepted set gives 2
  pub mark_reset : check words bytes ≡ 0 → (reset words bytes).state.mark ≡ 2
  unfolding reset started started_by initial
  mark_reset e = rw e

  -- and a cold start the same state with 0 and 0
  pub cold_is_fallen : check words bytes ≡ 0 → (cold_start words bytes).state ≡ fallen (reset words bytes).state
  unfolding cold_start reset started started_by initial
  cold_is_fallen e = rw e

  -- ---- one call
  module _ (s : State) (payload : List ℕ) (room : ℕ) where
    -- an accepted frame is answered with the mark that it came with
    pub mark_answered : refusal words bytes s payload room ≡ 0 → (decode words bytes s payload room).mark ≡ s.mark
    unfolding decode answer accepted
    mark_answered h = rw h

    -- and then the mark rises by 1, at most to 2
    pub mark_rises : refusal words bytes s payload room ≡ 0 → (step words bytes s (heard payload room)).mark ≡ min (s.mark + 1) 2
    unfolding step decode answer accepted next raised
    mark_rises h = rw (h, step)

    -- a refused decode sets it to 0
    pub mark_refused : (refusal words bytes s payload room ≡ 0 → ⊥) → (step words bytes s (heard payload room)).mark ≡ 0
    unfolding step decode answer refused
    mark_refused h =
        let by : (n : ℕ) → (n ≡ 0 → ⊥) → (answer n words bytes s payload).state.mark ≡ 0 = elim [ zero ↦ λ g. absurd (g refl) | suc n ↦ λ g. refl ] in
        by (refusal words bytes s payload room) h

  -- and so does a missed frame
  pub mark_missed : (s : State) → (step words bytes s missed).mark ≡ 0
  unfolding step
  mark_missed s = missed_mark s

  -- ---- accepted frames, one after the other
  -- the event is a frame that is accepted
  abbrev pub Taken : State → Event → Type 0
  Taken s (heard payload room) = refusal words bytes s payload room ≡ 0
  Taken s missed = ⊥

  -- so is each of a sequence
  abbrev pub AllTaken : State → List Event → Type 0
  AllTaken s [] = Unit
  AllTaken s (e ∷ es) = Taken s e × AllTaken (step words bytes s e) es

  -- ---- whatever the sequence
  -- a sequence that ends in an accepted frame
  pub record Ends (s : State) (es : List Event) : Type 0 where
    pub past : List Event
    pub last : Event
    pub are : es ≡ past ++ (last ∷ [])
    pub taken : Taken (run words bytes s past) last
    pub leaves : run words bytes s es ≡ step words bytes (run words bytes s past) last

  -- a sequence that ends in two accepted frames
  pub record EndsTwice (s : State) (es : List Event) : Type 0 where
    pub past : List Event
    pub first : Event
    pub second : Event
    pub are : es ≡ past ++ (first ∷ second ∷ [])
    pub first_taken : Taken (run words bytes s past) first
    pub second_taken : Taken (step words bytes (run words bytes s past) first) second
