-- Demand 3: what a receiver may rely on. The statement is `MayRely`, below; it is proved in Relied.antt.
--
-- Why two frames are enough. Lag, class and pitch gain need the frame alone. The gain history holds four log gains: one frame replaces it. An innovation is sharpened
-- by its lag, the LPC numbers, the pitch gain of the subframe before it and the last lag of the half before it. The LPC numbers come from the LSPs of this half and
-- of the half before it, each predicted from its own residual and the three before it: so a half sees four halves back, which are two frames. The count of zero residuals
-- is the LPC numbers'.
--
-- What is not claimed. Excitation and samples, which keep some of all that was heard. And nothing follows where a loss is not reported: a receiver that is given
-- the next frame in the place of a lost one keeps its mark, over a past that is not the sender's.
use Rattle.std.specs.Prelude.{ℕ, ◌≡◌, List, [], ◌∷◌, ◌++◌, ℤ}
use Rattle.state.specs.declared.State.{State}
use Rattle.state.specs.State.{reset}
use Rattle.calls.specs.Celp.{refusal, decode}
use Rattle.calls.specs.Run.{Event, heard, missed, step, run}

module _ (words : List ℤ) (bytes : List ℕ) where
  -- ---- the sender
  -- the state after a frame, and after several
  abbrev pub after : State → List ℕ → State
  after t frame = (decode words bytes t frame 320).state

  abbrev pub after_all : State → List (List ℕ) → State
  after_all t [] = t
  after_all t (frame ∷ frames) = after_all (after t frame) frames

  -- a call: frames that are accepted one after the other
  abbrev pub Call : State → List (List ℕ) → Type 0
  Call t [] = Unit
  Call t (frame ∷ frames) = (refusal words bytes t frame 320 ≡ 0) × Call (after t frame) frames

  abbrev pub START : State
  START = (reset words bytes).state

  -- ---- a receiver with the same tables
  -- it joins at the first frame in the reset state, or at any frame in a state with mark 0, such as the cold one
  pub data Joins : List (List ℕ) → State → Type 0 where
    at_first : Joins [] START
    anywhere : (before : List (List ℕ)) (s : State) → s.mark ≡ 0 → Joins before s

  -- from the state s it makes the calls es while the sender sends these frames; each call is given the state that the one before returned
  pub data Follows : State → List (List ℕ) → List Event → Type 0 where
    begun : {s : State} → Follows s [] []
    -- it is given a frame as it was sent
    whole : {s : State} {frame : List ℕ} {frames : List (List ℕ)} {es : List Event} → Follows (step words bytes s (heard frame 320)) frames es → Follows s (frame ∷ frames) (heard frame 320 ∷ es)
    -- in no frame's place it makes any call that leaves mark 0: it reports a loss, once or again, or it is refused, as with a stray line or a wrong sample room
    between : {s : State} {e : Event} {frames : List (List ℕ)} {es : List Event} → (step words bytes s e).mark ≡ 0 → Follows (step words bytes s e) frames es → Follows s frames (e ∷ es)
    -- it goes without a frame while its mark is 0: so one report does for a lost frame, or for several that are lost together
    without : {s : State} {frame : List ℕ} {frames : List (List ℕ)} {es : List Event} → s.mark ≡ 0 → Follows s frames es → Follows s (frame ∷ frames) es

  -- ---- what it may rely on
  pub record MayRely : Type 0 where
    -- A frame that it answers with mark 2 (a refusal answers 0) has the sender's figures: of each subframe the lag and its fraction, the twelve gain figures,
    -- class among them, the LPC numbers, the shaped innovation and the count of zero residuals.
    pub figures : (before since : List (List ℕ)) (frame : List ℕ) (s : State) (es : List Event)
        → Call START ((before ++ since) ++ frame ∷ [])
        → Joins before s
        → Follows s since es
        → (decode words bytes (run words bytes s es) frame 320).mark ≡ 2
        → (decode words bytes (run words bytes s es) frame 320).subframes ≡ (decode words bytes (after_all START (before ++ since)) frame 320).subframes
    -- After two calls in a row that each accept a frame the next frame, if it is accepted, is answered with mark 2.
    pub two_in_a_row : (s : State) (one two frame : List ℕ)
        → refusal words bytes s one 320 ≡ 0
        → refusal words bytes (after s one) two 320 ≡ 0
        → refusal words bytes (after (after s one) two) frame 320 ≡ 0
        → (decode words bytes (after (after s one) two) frame 320).mark ≡ 2
    -- Every report of a loss leaves mark 0, and so does every decode that is refused.
    pub reported : (s : State) → (step words bytes s missed).mark ≡ 0
    pub refused : (s : State) (payload : List ℕ) (room : ℕ) → (refusal words bytes s payload room ≡ 0 → ⊥) → (step words bytes s (heard payload room)).mark ≡ 0
