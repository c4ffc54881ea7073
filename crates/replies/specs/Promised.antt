-- What the functions promise: what is left to play, and a text over the beginning of the room.
use Rattle.std.specs.Prelude.{ℕ, ◌≤◌, ◌≡◌, List, [], cond, eqb, length, take, drop}
use Rattle.stream.specs.Lines.{lines}
use Rattle.stream.specs.Room.{over}
use Rattle.state.specs.declared.State.{State}
use Rattle.state.specs.State.{all_zero}
use Rattle.slots.specs.declared.Slot.{Slot}
use Rattle.shelf.specs.Run.{Shelf}
use Rattle.places.specs.Frames.{frames}
use Rattle.seek.specs.Seek.{Sought}
use Rattle.replies.specs.declared.Cue.{Cue}
use Rattle.replies.specs.declared.Obeyed.{Obeyed}

-- ---- what is to be played: a state, and the lines of the frames
pub record Ahead : Type 0 where
  pub state : State
  pub frames : List (List ℕ)

abbrev pub silent : Ahead
silent = record { state = all_zero; frames = [] }

abbrev pub silence : Cue
silence = record { state = all_zero; place = 0; left = 0 }

-- those that a place in the recording and a number of frames tell
unfoldable pub ahead : List ℕ → Cue → List (List ℕ)
ahead recording c = take c.left (lines (drop c.place recording))

abbrev pub ahead_of : List ℕ → Cue → Ahead
ahead_of recording c = record { state = c.state; frames = ahead recording c }

-- what `play` leaves to play, where s was found
unfoldable pub cued : List ℕ → Sought → ℕ → ℕ → Ahead
cued recording s k n = cond (eqb s.number 0) (record { state = s.state; frames = take n (drop k (frames recording)) }) silent

-- ---- the shelf, its records and its images
abbrev pub shelf : List Slot → List ℕ → Shelf
shelf slots images = record { slots = slots; images = images }

-- ---- a text over the beginning of the room, of 64 bytes at most
pub record Put (text room : List ℕ) (n : ℕ) (now : List ℕ) : Type 0 where
  pub long : n ≡ length text
  pub fits : n ≤ 64
  pub put : now ≡ over text room

-- a command that leaves nothing to play: the records, and its text
pub record Quiet (l : List Slot) (text room : List ℕ) (r : Obeyed) (now : List ℕ) : Type 0 where
  pub slots : r.slots ≡ l
  pub silent : r.cue ≡ silence
  pub put : Put text room r.n now

-- one that may: `play`
pub record Cues (l : List Slot) (recording : List ℕ) (a : Ahead) (text room : List ℕ) (r : Obeyed) (now : List ℕ) : Type 0 where
  pub slots : r.slots ≡ l
  pub cue : ahead_of recording r.cue ≡ a
  pub put : Put text room r.n now

-- a text that is given by an equation
pub put_as : {t u room : List ℕ} {n : ℕ} {now : List ℕ} → t ≡ u → Put u room n now → Put t room n now
put_as e p = rw e p
