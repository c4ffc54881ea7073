-- What the functions on plain data give: the record of a slot that is held, a decision, and a slot by its number.
use Rattle.std.specs.Prelude.{ℕ, List, cond, ltb, Option, Some, None, Result, Ok, Err}
use Rattle.refusal.specs.declared.Refusal.{Refusal}
use Rattle.refusal.specs.declared.Refusal.TheVariants.{NoSlot}
use Rattle.refusal.specs.Numbers as Numbers
use Rattle.slots.specs.declared.Slot.{Slot}
use Rattle.slot_users.specs.declared.Change.{Change}
use Rattle.slot_users.specs.Users.{SLOTS, Decision, refuse, change, slot_at, of_held}

-- the record of slot k, where k is one of the sixteen and has users
abbrev pub held : List Slot → ℕ → Result Slot Refusal
held l k = of_held l k (λ _. Err NoSlot) (Ok (slot_at l k))

-- the decision that a function answers: a refusal by its number
abbrev pub decided : Result Change Refusal → Decision
decided (Ok c) = change c.at c.slot
decided (Err r) = refuse (Numbers.number r)

-- the slot of a number below 16; past the last there is none
abbrev pub some_slot : ℕ → Option ℕ
some_slot n = cond (ltb n SLOTS) (Some n) None
