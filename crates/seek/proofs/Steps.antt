-- A seek's refusals one by one, in their order; and what is fetched.
use Rattle.std.specs.Prelude.{ℕ, zero, suc, ◌<◌, ◌≤◌, ◌≡◌, Bool, List, cond, ℤ, length, Result, Ok, Err}
use Rattle.std.proofs.Math.Path.{refl}
use Rattle.std.proofs.Math.Bool.{true, false}
use Rattle.std.proofs.Common.{ap, sym, ◌∙◌, arith}
use lib.Dec.{ltb}
use borrow.Author.Tests.{eq-eqb, lt-ltb, le-ltb}
use Rattle.refusal.specs.declared.Refusal.{Refusal}
use Rattle.refusal.specs.Numbers as Numbers
use Rattle.refusal.specs.Numbers.{number_not_0}
use Rattle.tables.specs.Tables.{check}
use Rattle.state.specs.declared.State.{State}
use Rattle.state.specs.State.{obeys}
use Rattle.slots.specs.declared.Slot.{Slot}
use Rattle.slot_users.specs.Users.{SLOTS, slot_at}
use Rattle.slot_users.specs.Held.{held_yes}
use Rattle.shelf.specs.Shelf.{Fetched, state_at, lent, not_fetched, fetch_lent, fetch}
use Rattle.shelf.specs.Cases.{judged_lent}
use Rattle.shelf.specs.Answers.{fetched}
use Rattle.places.specs.Frames.{frames}
use Rattle.forward.specs.Forward.{forward}
use Rattle.best_save.specs.Best.{fits, best, best_means}
use Rattle.seek.specs.Seek.{Sought, not_sought, of_set, from_save, seek_lent}

no : (b : Bool) → b ≡ true → b ≡ false → ⊥
no b e f = let z : ◌≡◌ {A = ℕ} 0 1 = cc in omega arith

-- a save that fits has users
fits_held : (k : ℕ) (s : Slot) → fits k s ≡ true → s.users ≡ 0 → ⊥
unfolding fits
fits_held k s e u = no (fits k s) e (rw (eq-eqb s.users 0 u))

of_refused : (r : Refusal) (a : Sought) → not_sought (Numbers.number r) ≡ of_set (Numbers.number r) a
unfolding of_set
of_refused r a = by (Numbers.number r) (number_not_0 r)
  where
    by : (n : ℕ) → (n ≡ 0 → ⊥) → not_sought n ≡ of_set n a
    by zero z = absurd (z refl)
    by (suc n) z = refl

module _ (words : List ℤ) (bytes : List ℕ) (l : List Slot) (m recording : List ℕ) (k : ℕ) where
  abbrev seeks : Sought
  seeks = seek_lent words bytes l m recording k

  pub none_held : SLOTS ≤ best l k → seeks ≡ not_sought 15
  unfolding seek_lent
  none_held h = rw (le-ltb (best l k) SLOTS h)

  pub no_frame : best l k < SLOTS → ltb k (length (frames recording)) ≡ false → seeks ≡ not_sought 15
  unfolding seek_lent
  no_frame h e = rw (lt-ltb (best l k) SLOTS h, e)

  module _ (h : best l k < SLOTS) (e : ltb k (length (frames recording)) ≡ true) where
    pub set_refused : (r : Refusal) → Numbers.number r ≡ check words bytes → not_sought (Numbers.number r) ≡ seeks
    unfolding seek_lent
    set_refused r c = rw (lt-ltb (best l k) SLOTS h, e, ← c) (of_refused r (from_save words bytes l m recording k))

    pub set_accepted : check words bytes ≡ 0 → seeks ≡ from_save words bytes l m recording k
    unfolding seek_lent of_set
    set_accepted c = rw (lt-ltb (best l k) SLOTS h, e, c)

  module _ (n : lent (length l) (length m) ≡ true) (h : best l k < SLOTS) (a : Result State Refusal) (is : fetched a ≡ fetch l m (best l k)) where
    fetched_is : fetched a ≡ cond (obeys (state_at (best l k) m)) (record { number = 0; state = state_at (best l k) m }) (not_fetched 5)
    unfolding fetch fetch_lent
    fetched_is = is ∙ judged_lent (length l) (length m) not_fetched (fetch_lent l m (best l k)) n ∙ held_yes l (best l k) not_fetched _ h (fits_held k (slot_at l (best l k)) (best_means l k h).0)

    -- what is fetched decides
    pub broken : (r : Refusal) → a ≡ Err r → not_sought (Numbers.number r) ≡ from_save words bytes l m recording k
    unfolding from_save
    broken r e = by (obeys (state_at (best l k) m)) refl
      where
        number_is : Numbers.number r ≡ (cond {A = Fetched} (obeys (state_at (best l k) m)) (record { number = 0; state = state_at (best l k) m }) (not_fetched 5)).number
        number_is = ap (λ (x : Fetched). x.number) (ap fetched (sym e) ∙ fetched_is)

        by : (o : Bool) → obeys (state_at (best l k) m) ≡ o → not_sought (Numbers.number r) ≡ cond (obeys (state_at (best l k) m)) (record { number = 0; state = forward words bytes (state_at (best l k) m) recording (slot_at l (best l k)).frame k }) (not_sought 5)
        by true o = absurd (number_not_0 r (number_is ∙ rw o))
        by false o = let n : Numbers.number r ≡ 5 = number_is ∙ rw o in rw (o, n)

    pub goes : (s t : State) → a ≡ Ok s → t ≡ forward words bytes s recording (slot_at l (best l k)).frame k → record { number = 0; state = t } ≡ from_save words bytes l m recording k
    unfolding from_save
    goes s t e w = by (obeys (state_at (best l k) m)) refl
      where
        is_at : fetched (Ok s) ≡ cond (obeys (state_at (best l k) m)) (record { number = 0; state = state_at (best l k) m }) (not_fetched 5)
        is_at = ap fetched (sym e) ∙ fetched_is

        by : (o : Bool) → obeys (state_at (best l k) m) ≡ o → record { number = 0; state = t } ≡ cond (obeys (state_at (best l k) m)) (record { number = 0; state = forward words bytes (state_at (best l k) m) recording (slot_at l (best l k)).frame k }) (not_sought 5)
        by true o = let q : s ≡ state_at (best l k) m = ap (λ (x : Fetched). x.state) is_at ∙ rw o in rw (o, w, q)
        by false o = absurd (let n : 0 ≡ 5 = ap (λ (x : Fetched). x.number) is_at ∙ rw o in omega arith)
