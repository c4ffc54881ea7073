-- The refusals one by one, in their order; those of a slot that is not held are in slot_users, Held.
use Rattle.std.specs.Prelude.{ℕ, ◌<◌, ◌≤◌, ◌≡◌, refl, Bool, true, false, List, eqb, ltb, length}
use Rattle.std.proofs.Common.{arith, lt-ltb, le-ltb, eqb-true}
use Rattle.state.specs.declared.State.{State}
use Rattle.state.specs.State.{obeys, all_zero}
use Rattle.slots.specs.declared.Slot.{Slot}
use Rattle.slot_users.specs.Users.{SLOTS, users, free, of_held, Decision, refuse, change}
use Rattle.shelf.specs.Shelf.{ROOM, lent, judged, state_at, save_lent, fetch_lent, fetch, number, slot_of, slots_after, images_after}

module _ {A : Type 0} (count room : ℕ) (refuses : ℕ → A) (a : A) where
  pub judged_not : lent count room ≡ false → judged count room refuses a ≡ refuses 12
  unfolding judged
  judged_not e = rw e

  pub judged_lent : lent count room ≡ true → judged count room refuses a ≡ a
  unfolding judged
  judged_lent e = rw e

-- what it takes not to be refused with 12
pub lent_means : (count room : ℕ) → lent count room ≡ true → (count ≡ SLOTS) × (room ≡ ROOM)
unfolding lent
lent_means count room e = by (eqb count SLOTS) (eqb room ROOM) refl refl e
  where
    by : (a b : Bool) → eqb count SLOTS ≡ a → eqb room ROOM ≡ b → lent count room ≡ true → (count ≡ SLOTS) × (room ≡ ROOM)
    by true true p q e = (eqb-true count SLOTS p, eqb-true room ROOM q)
    by true false p q e = absurd (let f : lent count room ≡ false = rw (p, q) in let z : ◌≡◌ {A = ℕ} 0 1 = cc in omega arith)
    by false b p q e = absurd (let f : lent count room ≡ false = rw (p) in let z : ◌≡◌ {A = ℕ} 0 1 = cc in omega arith)

pub is_lent : lent SLOTS ROOM ≡ true
unfolding lent
is_lent = refl

module _ (l : List Slot) (s : State) (f : ℕ) where
  pub save_full : SLOTS ≤ free l → save_lent l s f ≡ refuse 14
  unfolding save_lent
  save_full h = rw (le-ltb (free l) SLOTS h)

  pub save_broken : free l < SLOTS → obeys s ≡ false → save_lent l s f ≡ refuse 5
  unfolding save_lent
  save_broken h e = rw (lt-ltb (free l) SLOTS h, e)

  pub save_taken : free l < SLOTS → obeys s ≡ true → save_lent l s f ≡ change (free l) (record { users = 1; frame = f })
  unfolding save_lent
  save_taken h e = rw (lt-ltb (free l) SLOTS h, e)

-- a refused call writes nothing; the slot that it gives is 0, and the state all zero
pub refused_nothing : (d : Decision) (l : List Slot) (i m : List ℕ) → (number d ≡ 0 → ⊥) → (slots_after d l ≡ l) × (images_after d i m ≡ m) × (slot_of d ≡ 0)
unfolding number slots_after images_after slot_of
refused_nothing (refuse n) l i m h = (refl, refl, refl)
refused_nothing (change k s) l i m h = absurd (h refl)

pub refused_zero : (l : List Slot) (m : List ℕ) (k : ℕ) → ((fetch l m k).number ≡ 0 → ⊥) → (fetch l m k).state ≡ all_zero
unfolding fetch fetch_lent judged of_held
refused_zero l m k h = by (lent (length l) (length m)) (ltb k SLOTS) (eqb (users l k) 0) (obeys (state_at k m)) refl refl refl refl
  where
    by : (a b c d : Bool) → lent (length l) (length m) ≡ a → ltb k SLOTS ≡ b → eqb (users l k) 0 ≡ c → obeys (state_at k m) ≡ d → (fetch l m k).state ≡ all_zero
    by false b c d p q r s = rw p
    by true false c d p q r s = rw (p, q)
    by true true true d p q r s = rw (p, q, r)
    by true true false false p q r s = rw (p, q, r, s)
    by true true false true p q r s = absurd (h (rw (p, q, r, s)))
