-- The shelf of saved states: sixteen slot records, and beside them the bytes of sixteen images.
use Rattle.std.specs.Prelude.{ℕ, ◌+◌, ◌*◌, ◌≡◌, List, ◌++◌, Bool, cond, ◌&&◌, eqb, ltb, length, set, take, drop}
use Rattle.state.specs.declared.State.{State}
use Rattle.state.specs.State.{all_zero, obeys}
use Rattle.image.specs.Image as Image
use Rattle.image.specs.Image.{SIZE}
use Rattle.slots.specs.declared.Slot.{Slot}
use Rattle.slot_users.specs.Users.{SLOTS, free, Decision, refuse, change, of_held, hold_lent, let_go_lent}

-- what a save answers: a refusal number, or 0 and the slot that was taken
pub record Saved : Type 0 where
  pub number : ℕ
  pub slot : ℕ

-- what a fetch answers: a refusal number and the all-zero state, or 0 and the state
pub record Fetched : Type 0 where
  pub number : ℕ
  pub state : State

-- how many bytes the images of all slots take
abbrev pub ROOM : ℕ
ROOM = SLOTS * SIZE

-- the state whose image slot k has
unfoldable pub state_at : ℕ → List ℕ → State
state_at k m = Image.state (take SIZE (drop (SIZE * k) m))

-- the images with another at slot k
unfoldable pub with_image : ℕ → List ℕ → List ℕ → List ℕ
with_image k i m = take (SIZE * k) m ++ (i ++ drop (SIZE * k + SIZE) m)

-- of so many records and bytes: whether there are sixteen, and bytes for sixteen images
unfoldable pub lent : ℕ → ℕ → Bool
lent count room = eqb count SLOTS && eqb room ROOM

-- what follows of a decision: the number, the slot that is answered, the records, the images
unfoldable pub number : Decision → ℕ
number (refuse n) = n
number (change k s) = 0

unfoldable pub slot_of : Decision → ℕ
slot_of (refuse n) = 0
slot_of (change k s) = k

unfoldable pub slots_after : Decision → List Slot → List Slot
slots_after (refuse n) l = l
slots_after (change k s) l = set l k s

unfoldable pub images_after : Decision → List ℕ → List ℕ → List ℕ
images_after (refuse n) i m = m
images_after (change k s) i m = with_image k i m

-- 12 where the lent parts are of another size
unfoldable pub judged : {A : Type 0} → ℕ → ℕ → (ℕ → A) → A → A
judged count room refuses a = cond (lent count room) a (refuses 12)

-- the lowest slot without users, for one user
unfoldable pub save_lent : List Slot → State → ℕ → Decision
save_lent l s f = cond (ltb (free l) SLOTS) (cond (obeys s) (change (free l) (record { users = 1; frame = f })) (refuse 5)) (refuse 14)

-- a state as it was saved
abbrev pub not_fetched : ℕ → Fetched
not_fetched n = record { number = n; state = all_zero }

unfoldable pub fetch_lent : List Slot → List ℕ → ℕ → Fetched
fetch_lent l m k = of_held l k not_fetched (cond (obeys (state_at k m)) (record { number = 0; state = state_at k m }) (not_fetched 5))

-- the four calls: on the records l, beside so many bytes of images, or the images m
unfoldable pub hold : List Slot → ℕ → ℕ → Decision
hold l room k = judged (length l) room refuse (hold_lent l k)

unfoldable pub let_go : List Slot → ℕ → ℕ → Decision
let_go l room k = judged (length l) room refuse (let_go_lent l k)

unfoldable pub save : List Slot → ℕ → State → ℕ → Decision
save l room s f = judged (length l) room refuse (save_lent l s f)

unfoldable pub fetch : List Slot → List ℕ → ℕ → Fetched
fetch l m k = judged (length l) (length m) not_fetched (fetch_lent l m k)

-- what a call that decides d has done to the records l, when it returns n
pub record Done (d : Decision) (l : List Slot) (n : ℕ) (after : List Slot) : Type 0 where
  pub answer : n ≡ number d
  pub slots : after ≡ slots_after d l

-- what a save has done
pub record SaveDone (l : List Slot) (m : List ℕ) (s : State) (f : ℕ) (r : Saved) (after : List Slot) (now : List ℕ) : Type 0 where
  pub answer : r ≡ record { number = number (save l (length m) s f); slot = slot_of (save l (length m) s f) }
  pub slots : after ≡ slots_after (save l (length m) s f) l
  pub images : now ≡ images_after (save l (length m) s f) (Image.image s) m
