-- A sequence of calls on a shelf that began as zeros, and that only these calls write: what each slot's users are counted from.
use Rattle.std.specs.Prelude.{ℕ, ◌+◌, List, [], ◌∷◌, cond, eqb, length, replicate}
use Rattle.state.specs.declared.State.{State}
use Rattle.image.specs.Image as Image
use Rattle.image.specs.Image.{Held}
use Rattle.slots.specs.declared.Slot.{Slot}
use Rattle.slots.specs.Slots.{no_slot}
use Rattle.slot_users.specs.Users.{SLOTS, Decision, refuse, change}
use Rattle.shelf.specs.Shelf as Calls
use Rattle.shelf.specs.Shelf.{ROOM, slots_after, images_after}

pub record Shelf : Type 0 where
  pub slots : List Slot
  pub images : List ℕ

-- as the player lends it at first
unfoldable pub zeros : Shelf
zeros = record { slots = replicate SLOTS no_slot; images = replicate ROOM 0 }

pub data Call : Type 0 where
  save : State → ℕ → Call
  hold : ℕ → Call
  let_go : ℕ → Call
  fetch : ℕ → Call

module _ (h : Shelf) where
  -- what each call decides on the shelf h
  abbrev pub saving : State → ℕ → Decision
  saving s f = Calls.save h.slots (length h.images) s f

  abbrev pub holding : ℕ → Decision
  holding k = Calls.hold h.slots (length h.images) k

  abbrev pub letting_go : ℕ → Decision
  letting_go k = Calls.let_go h.slots (length h.images) k

  -- the shelf after a call
  unfoldable pub after : Call → Shelf
  after (save s f) = record { slots = slots_after (saving s f) h.slots; images = images_after (saving s f) (Image.image s) h.images }
  after (hold k) = record { slots = slots_after (holding k) h.slots; images = h.images }
  after (let_go k) = record { slots = slots_after (letting_go k) h.slots; images = h.images }
  after (fetch k) = h

-- the shelf after a sequence of calls
unfoldable pub run : Shelf → List Call → Shelf
run h [] = h
run h (c ∷ cs) = run (after h c) cs

-- 1 for a decision that is carried out on slot k, 0 for one on another slot and for a refusal
unfoldable pub on : ℕ → Decision → ℕ
on k (refuse n) = 0
on k (change j s) = cond (eqb j k) 1 0

-- the accepted saves in slot k, holds of it, lettings-go of it: of one call, and of a sequence
module _ (k : ℕ) where
  unfoldable pub save1 : Shelf → Call → ℕ
  save1 h (save s f) = on k (saving h s f)
  save1 h (hold j) = 0
  save1 h (let_go j) = 0
  save1 h (fetch j) = 0

  unfoldable pub hold1 : Shelf → Call → ℕ
  hold1 h (save s f) = 0
  hold1 h (hold j) = on k (holding h j)
  hold1 h (let_go j) = 0
  hold1 h (fetch j) = 0

  unfoldable pub let_go1 : Shelf → Call → ℕ
  let_go1 h (save s f) = 0
  let_go1 h (hold j) = 0
  let_go1 h (let_go j) = on k (letting_go h j)
  let_go1 h (fetch j) = 0

  unfoldable pub saves : Shelf → List Call → ℕ
  saves h [] = 0
  saves h (c ∷ cs) = save1 h c + saves (after h c) cs

  unfoldable pub holds : Shelf → List Call → ℕ
  holds h [] = 0
  holds h (c ∷ cs) = hold1 h c + holds (after h c) cs

  unfoldable pub lettings : Shelf → List Call → ℕ
  lettings h [] = 0
  lettings h (c ∷ cs) = let_go1 h c + lettings (after h c) cs

  -- the state that was saved last in slot k, or d where none was: after a call, and after a sequence
  unfoldable pub last1 : State → Shelf → Call → State
  last1 d h (save s f) = cond (eqb (on k (saving h s f)) 1) s d
  last1 d h (hold j) = d
  last1 d h (let_go j) = d
  last1 d h (fetch j) = d

  unfoldable pub last_saved : State → Shelf → List Call → State
  last_saved d h [] = d
  last_saved d h (c ∷ cs) = last_saved (last1 d h c) (after h c) cs

-- each saved state is one that a program can hold in a State: its arrays are as long, and its numbers as wide, as the struct says
unfoldable pub HeldCall : Call → Type 0
HeldCall (save s f) = Held s
HeldCall (hold k) = Unit {0}
HeldCall (let_go k) = Unit {0}
HeldCall (fetch k) = Unit {0}

unfoldable pub Holdable : List Call → Type 0
Holdable [] = Unit {0}
Holdable (c ∷ cs) = HeldCall c × Holdable cs
