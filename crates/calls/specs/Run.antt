-- A sequence of calls, each given the state that the one before returned.
use Rattle.std.specs.Prelude.{ℕ, ◌≡◌, refl, List, [], ◌∷◌, ◌++◌, ℤ}
use Rattle.state.specs.declared.State.{State}
use Rattle.state.specs.State.{missed_frame}
use Rattle.calls.specs.Celp.{decode}

-- a payload that is handed to decode, with the length of the sample buffer; or a frame that is reported as missed
pub data Event : Type 0 where
  heard : List ℕ → ℕ → Event
  missed : Event

-- the state that the call returns
unfoldable pub step : List ℤ → List ℕ → State → Event → State
step words bytes s (heard payload room) = (decode words bytes s payload room).state
step words bytes s missed = (missed_frame s).state

-- the state that the last call of a sequence returns
unfoldable pub run : List ℤ → List ℕ → State → List Event → State
run words bytes s [] = s
run words bytes s (e ∷ es) = run words bytes (step words bytes s e) es

-- one sequence after another
pub run_append : (words : List ℤ) (bytes : List ℕ) (s : State) (es fs : List Event) → run words bytes s (es ++ fs) ≡ run words bytes (run words bytes s es) fs
unfolding run
run_append words bytes s [] fs = refl
run_append words bytes s (e ∷ es) fs = run_append words bytes (step words bytes s e) es fs
