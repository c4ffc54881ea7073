-- T-14: when excitation is sure again. The statement is `SureAgain`, below; it is proved in Regained.antt.
--
-- Why two subframes are enough. A frame that is answered with mark 2 has the sender's lags, gains and innovations (`MayRely`). With pitch gain 0 a subframe's excitation
-- is innovation and code gain alone: it is the sender's, whatever was heard before. Two subframes are 160 samples, and the filter reaches back 154: so after two in a row
-- all that the next one is predicted from is the sender's, and so is what it makes of it, whatever its gain; and so on, until a frame is missed or refused.
--
-- What is not claimed. Samples, which the synthesis and the output filter remember. And nothing of a subframe that is not answered as sure: it may be the sender's too.
use Rattle.std.specs.Prelude.{ℕ, ◌*◌, ◌<◌, ◌≡◌, List, [], ◌∷◌, ◌++◌, ℤ, length, get_or, replicate}
use Rattle.half.specs.Core.{part}
use Rattle.state.specs.declared.State.{State}
use Rattle.calls.specs.Celp.{refusal, decode}
use Rattle.calls.specs.Run.{Event, heard, missed, step, run}
use Rattle.calls.specs.Receiver.{after_all, Call, START, Joins, Follows}

module _ (words : List ℤ) (bytes : List ℕ) where
  pub record SureAgain : Type 0 where
    -- Where a receiver as in `MayRely` answers a subframe as sure, the 80 samples of its excitation are the sender's. The state that it joined in has 154 samples of
    -- excitation, as the struct has.
    pub excitation : (before since : List (List ℕ)) (frame : List ℕ) (s : State) (es : List Event)
        → Call words bytes (START words bytes) ((before ++ since) ++ frame ∷ [])
        → Joins words bytes before s
        → length s.excitation ≡ 154
        → Follows words bytes s since es
        → (i : ℕ) → i < 4
        → get_or (decode words bytes (run words bytes s es) frame 320).sure i 0 ≡ 1
        → part (decode words bytes (run words bytes s es) frame 320).excitation (80 * i) ≡ part (decode words bytes (after_all words bytes (START words bytes) (before ++ since)) frame 320).excitation (80 * i)
    -- From reset, with nothing lost, every subframe of every frame is answered as sure.
    pub from_start : (frames : List (List ℕ)) (frame : List ℕ)
        → Call words bytes (START words bytes) (frames ++ frame ∷ [])
        → (decode words bytes (after_all words bytes (START words bytes) frames) frame 320).sure ≡ replicate 4 1
    -- A report of a loss leaves 0; a decode that is refused leaves 0 and answers no subframe as sure; and so does an accepted one that came with a mark below 2.
    pub reported : (s : State) → (step words bytes s missed).sure ≡ 0
    pub refused : (s : State) (payload : List ℕ) (room : ℕ) → (refusal words bytes s payload room ≡ 0 → ⊥)
        → ((step words bytes s (heard payload room)).sure ≡ 0) × ((decode words bytes s payload room).sure ≡ replicate 4 0)
    pub below_two : (s : State) (payload : List ℕ) (room : ℕ) → refusal words bytes s payload room ≡ 0 → s.mark < 2
        → ((step words bytes s (heard payload room)).sure ≡ 0) × ((decode words bytes s payload room).sure ≡ replicate 4 0)
