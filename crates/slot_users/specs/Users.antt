-- The users of the sixteen slots: which slot is free, which is held, and what a hold and a letting-go decide.
use Rattle.std.specs.Prelude.{ℕ, ◌+◌, ◌-◌, List, cond, eqb, ltb, get_or}
use Rattle.sequence.specs.First.{first}
use Rattle.slots.specs.declared.Slot.{Slot}
use Rattle.slots.specs.Slots.{no_slot}

-- how many records there are
abbrev pub SLOTS : ℕ
SLOTS = 16

-- the record of slot k, and how many users it has
abbrev pub slot_at : List Slot → ℕ → Slot
slot_at l k = get_or l k no_slot

abbrev pub users : List Slot → ℕ → ℕ
users l k = (slot_at l k).users

-- the lowest slot without users, or 16
unfoldable pub free : List Slot → ℕ
free l = first (λ k. eqb (users l k) 0) SLOTS

-- what a call decides: a refusal, by its number; or that slot k's record becomes another
pub data Decision : Type 0 where
  refuse : ℕ → Decision
  change : ℕ → Slot → Decision

-- 13 where slot k is none of the sixteen, or has no users
unfoldable pub of_held : {A : Type 0} → List Slot → ℕ → (ℕ → A) → A → A
of_held l k refuses a = cond (ltb k SLOTS) (cond (eqb (users l k) 0) (refuses 13) a) (refuses 13)

-- a user more, to 255
unfoldable pub hold_lent : List Slot → ℕ → Decision
hold_lent l k = of_held l k refuse (cond (eqb (users l k) 255) (refuse 14) (change k (record { users = users l k + 1; frame = (slot_at l k).frame })))

-- a user fewer
unfoldable pub let_go_lent : List Slot → ℕ → Decision
let_go_lent l k = of_held l k refuse (change k (record { users = users l k - 1; frame = (slot_at l k).frame }))
