-- Seeking frame k of a recording: the state that it will be decoded with, forward from the best save.
use Rattle.std.specs.Prelude.{ℕ, zero, suc, List, ◌&&◌, cond, ltb, ℤ, length, Result, Ok, Err}
use Rattle.refusal.specs.declared.Refusal.{Refusal}
use Rattle.refusal.specs.Numbers as Numbers
use Rattle.tables.specs.Tables.{check}
use Rattle.state.specs.declared.State.{State}
use Rattle.state.specs.State.{all_zero, obeys}
use Rattle.slots.specs.declared.Slot.{Slot}
use Rattle.slot_users.specs.Users.{SLOTS, slot_at}
use Rattle.shelf.specs.Shelf.{state_at, judged}
use Rattle.places.specs.Frames.{frames}
use Rattle.forward.specs.Forward.{forward}
use Rattle.best_save.specs.Best.{best}

-- what a seek answers: a refusal number and the all-zero state, or 0 and the state that frame k will be decoded with
pub record Sought : Type 0 where
  pub number : ℕ
  pub state : State

-- a refusal gives the all-zero state
abbrev pub not_sought : ℕ → Sought
not_sought n = record { number = n; state = all_zero }

-- the answer of a function
abbrev pub answer : Result State Refusal → Sought
answer (Ok s) = record { number = 0; state = s }
answer (Err r) = not_sought (Numbers.number r)

-- the same where the refusal is any number; 0 refuses nothing
abbrev pub numbered : Result State ℕ → Sought
numbered (Ok s) = record { number = 0; state = s }
numbered (Err n) = not_sought n

-- the set's refusal, 1 or 4, or what an accepted one gives
unfoldable pub of_set : ℕ → Sought → Sought
of_set zero a = a
of_set (suc n) a = not_sought (suc n)

-- tables, the records l, the images m, a recording, the frame k
module _ (words : List ℤ) (bytes : List ℕ) (l : List Slot) (m recording : List ℕ) (k : ℕ) where
  -- the state of the best save, and the number of the frame that it was saved before
  abbrev pub saved : State
  saved = state_at (best l k) m

  abbrev pub saved_at : ℕ
  saved_at = (slot_at l (best l k)).frame

  -- forward from it over the frames before k; 5 where it is broken
  unfoldable pub from_save : Sought
  from_save = cond (obeys saved) (record { number = 0; state = forward words bytes saved recording saved_at k }) (not_sought 5)

  -- 15 where no save is held at or below k, or the recording has no frame k; then 1 and 4, then 5. No slot is named and none is taken, so 13 and 14 cannot arise
  unfoldable pub seek_lent : Sought
  seek_lent = cond (ltb (best l k) SLOTS && ltb k (length (frames recording))) (of_set (check words bytes) from_save) (not_sought 15)

  -- the call: 12 before all
  unfoldable pub seek : Sought
  seek = judged (length l) (length m) not_sought seek_lent
