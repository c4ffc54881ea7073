-- Whether a slot is held, case by case.
use Rattle.std.specs.Prelude.{ℕ, ◌<◌, ◌≤◌, ◌≡◌, Bool, cond, List, Option, Some, None, Result, Ok, Err}
use Rattle.std.proofs.Math.Path.{refl}
use Rattle.std.proofs.Math.Bool.{true, false}
use borrow.Author.Tests.{lt-ltb, le-ltb, eq-eqb, ne_eqb, ltb-true, ltb-false, eqb-false}
use Rattle.std.proofs.Math.Dec.{eqb, ltb}
use Rattle.slots.specs.declared.Slot.{Slot}
use Rattle.std.proofs.Common.{ap}
use Rattle.refusal.specs.Numbers as Numbers
use Rattle.refusal.specs.declared.Refusal.{Refusal}
use Rattle.refusal.specs.declared.Refusal.TheVariants.{NoSlot}
use Rattle.slot_users.specs.Users.{SLOTS, users, slot_at, of_held}
use Rattle.slot_users.specs.ByValue.{held, some_slot}

module _ {A : Type 0} (l : List Slot) (k : ℕ) (refuses : ℕ → A) (a : A) where
  pub held_out : SLOTS ≤ k → of_held l k refuses a ≡ refuses 13
  unfolding of_held
  held_out h = rw (le-ltb k SLOTS h)

  pub held_none : k < SLOTS → users l k ≡ 0 → of_held l k refuses a ≡ refuses 13
  unfolding of_held
  held_none h e = rw (lt-ltb k SLOTS h, eq-eqb (users l k) 0 e)

  pub held_yes : k < SLOTS → (users l k ≡ 0 → ⊥) → of_held l k refuses a ≡ a
  unfolding of_held
  held_yes h e = rw (lt-ltb k SLOTS h, ne_eqb (users l k) 0 e)

-- what it takes to be held
pub held_means : (l : List Slot) (k : ℕ) (s : Slot) → held l k ≡ Ok s → (k < SLOTS) × (s ≡ slot_at l k) × (users l k ≡ 0 → ⊥)
unfolding of_held
held_means l k s e = by (ltb k SLOTS) (eqb (users l k) 0) refl refl e
  where
    by : (x y : Bool) → ltb k SLOTS ≡ x → eqb (users l k) 0 ≡ y → ◌≡◌ {A = Result Slot Refusal} (cond x (cond y (Err NoSlot) (Ok (slot_at l k))) (Err NoSlot)) (Ok s) → (k < SLOTS) × (s ≡ slot_at l k) × (users l k ≡ 0 → ⊥)
    by true false p q e = (ltb-true k SLOTS p, cc, eqb-false (users l k) 0 q)
    by true true p q e = cc
    by false y p q e = cc

-- by the answer alone
module _ {A : Type 0} (l : List Slot) (k : ℕ) (refuses : ℕ → A) (a : A) where
  pub is_held : (s : Slot) → held l k ≡ Ok s → of_held l k refuses a ≡ a
  is_held s e = let h = held_means l k s e in held_yes l k refuses a h.0 h.2

  pub not_held : (r : Refusal) → held l k ≡ Err r → of_held l k refuses a ≡ refuses (Numbers.number r)
  unfolding of_held
  not_held r e = by (ltb k SLOTS) (eqb (users l k) 0) refl refl e
    where
      of : (x : Refusal) → NoSlot ≡ x → refuses 13 ≡ refuses (Numbers.number x)
      of x w = ap (λ (y : Refusal). refuses (Numbers.number y)) w

      by : (x y : Bool) → ltb k SLOTS ≡ x → eqb (users l k) 0 ≡ y → ◌≡◌ {A = Result Slot Refusal} (cond x (cond y (Err NoSlot) (Ok (slot_at l k))) (Err NoSlot)) (Err r) → of_held l k refuses a ≡ refuses (Numbers.number r)
      by true false p q e = cc
      by true true p q e = rw (p, q) (of r cc)
      by false y p q e = rw p (of r cc)

-- what it says that there is such a slot, and that there is none
pub some_means : (n i : ℕ) → some_slot n ≡ Some i → (i ≡ n) × (n < SLOTS)
some_means n i e = by (ltb n SLOTS) refl e
  where
    by : (b : Bool) → ltb n SLOTS ≡ b → ◌≡◌ {A = Option ℕ} (cond b (Some n) None) (Some i) → (i ≡ n) × (n < SLOTS)
    by true p e = (cc, ltb-true n SLOTS p)
    by false p e = cc

pub none_means : (n : ℕ) → some_slot n ≡ None → SLOTS ≤ n
none_means n e = by (ltb n SLOTS) refl e
  where
    by : (b : Bool) → ltb n SLOTS ≡ b → ◌≡◌ {A = Option ℕ} (cond b (Some n) None) None → SLOTS ≤ n
    by true p e = cc
    by false p e = ltb-false n SLOTS p
