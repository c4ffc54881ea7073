-- The ways that each call goes: what the definitions give on each.
use Prim.Native.Nat.{ℕ, ◌<◌}
use mathlib.Core.Path.{◌≡◌, refl, sym, ap, ◌∙◌}
use mathlib.Core.Bool.{Bool, true, false, cond}
use mathlib.Core.List.{List, [], ◌∷◌}
use native.Mathlib.Omega.{arith}
use borrow.Author.Tests.{eq-eqb, ne_eqb, ltb-true}
use lib.Dec.{ltb}
use lib.ListN.{length, set}
use Rattle.state.specs.declared.State.{State}
use Rattle.state.specs.State.{all_zero, obeys}
use Rattle.image.specs.Image as Image
use Rattle.image.specs.Image.{SIZE}
use Rattle.slots.specs.declared.Slot.{Slot}
use Rattle.slot_users.specs.Users as Users
use Rattle.slot_users.specs.Users.{SLOTS, Decision, refuse, change, free}
use Rattle.shelf.specs.Shelf as Shelf
use Rattle.shelf.specs.Shelf.{Saved, Fetched, number, slot_of, slots_after, images_after, not_fetched, judged, lent, Done, SaveDone}
use Rattle.shelf.specs.Cases.{judged_not}
use Rattle.shelf.specs.April.{accepted_hold, accepted_let_go, accepted_save}
use Rattle.desk_records.specs.Records.{RECORDS, bytes_of_records, records, no_records}
use Rattle.desk_shelf.specs.Calls.{records_after, slot_after, hold, let_go, save, saved_image, fetch_number, fetch_image}

-- ---- a decision that is refused, and one that is carried out
refused_is : (d : Decision) → (number d ≡ 0 → ⊥) → d ≡ refuse (number d)
unfolding number
refused_is (refuse n) h = refl
refused_is (change k s) h = absurd (h refl)

module _ (b : List ℕ) where
  abbrev pub Told : Decision → ℕ → List ℕ → Type 0
  Told d n new = (n ≡ number d) × (new ≡ records_after d b)

  refuses : (d : Decision) (n : ℕ) → d ≡ refuse n → Told d n b
  unfolding number records_after
  refuses d n e = rw e (refl, refl)

  -- a hold or a letting-go f, of the records by value
  module _ (f : List Slot → Decision) (l after : List Slot) (n : ℕ) (p : l ≡ records b) (q : Done (f l) l n after) where
    numbered : n ≡ number (f (records b))
    numbered = q.answer ∙ ap (λ (t : List Slot). number (f t)) p

    pub change_refused : (n ≡ 0 → ⊥) → Told (f (records b)) n b
    change_refused z = let e = refused_is (f (records b)) (λ w. z (numbered ∙ w)) in let t = refuses (f (records b)) _ e in (numbered, t.1)

    pub change_taken : n ≡ 0 → (k : ℕ) (s : Slot) → (number (f (records b)) ≡ 0 → f (records b) ≡ change k s) → (new : List ℕ) → new ≡ bytes_of_records after → Told (f (records b)) 0 new
    unfolding records_after slots_after
    change_taken z k s a new e =
        let g = a (sym numbered ∙ z) in
        let t : after ≡ slots_after (f (records b)) (records b) = q.slots ∙ (λ i. slots_after (f (p i)) (p i)) in
        (sym z ∙ numbered, e ∙ ap bytes_of_records t ∙ rw g)

  module _ (room k : ℕ) where
    pub hold_twelve : (length b ≡ RECORDS → ⊥) → Told (hold b room k) 12 b
    unfolding hold Shelf.hold lent
    hold_twelve h = refuses (hold b room k) 12 (ap (λ (l : List Slot). Shelf.hold l room k) (no_records b h) ∙ judged_not 0 room refuse (Users.hold_lent [] k) refl)

    pub let_go_twelve : (length b ≡ RECORDS → ⊥) → Told (let_go b room k) 12 b
    unfolding let_go Shelf.let_go lent
    let_go_twelve h = refuses (let_go b room k) 12 (ap (λ (l : List Slot). Shelf.let_go l room k) (no_records b h) ∙ judged_not 0 room refuse (Users.let_go_lent [] k) refl)

    module _ (l after : List Slot) (n : ℕ) (p : l ≡ records b) where
      pub hold_refused : Done (Shelf.hold l room k) l n after → (n ≡ 0 → ⊥) → Told (hold b room k) n b
      unfolding hold
      hold_refused q z = change_refused (λ t. Shelf.hold t room k) l after n p q z

      pub hold_taken : Done (Shelf.hold l room k) l n after → n ≡ 0 → (new : List ℕ) → new ≡ bytes_of_records after → Told (hold b room k) 0 new
      unfolding hold
      hold_taken q z new e = change_taken (λ t. Shelf.hold t room k) l after n p q z _ _ (accepted_hold (records b) room k) new e

      pub let_go_refused : Done (Shelf.let_go l room k) l n after → (n ≡ 0 → ⊥) → Told (let_go b room k) n b
      unfolding let_go
      let_go_refused q z = change_refused (λ t. Shelf.let_go t room k) l after n p q z

      pub let_go_taken : Done (Shelf.let_go l room k) l n after → n ≡ 0 → (new : List ℕ) → new ≡ bytes_of_records after → Told (let_go b room k) 0 new
      unfolding let_go
      let_go_taken q z new e = change_taken (λ t. Shelf.let_go t room k) l after n p q z _ _ (accepted_let_go (records b) room k) new e

-- ---- a save
module _ (b m i old : List ℕ) (f : ℕ) where
  abbrev pub saving : Decision
  saving = save b (length m) i f (length old)

  abbrev pub AllTold : ℕ → List ℕ → List ℕ → List ℕ → Type 0
  AllTold n b' m' s' = (n ≡ number saving) × ((b' ≡ records_after saving b) × ((m' ≡ images_after saving (saved_image i) m) × (s' ≡ slot_after saving old)))

  nothing : (n : ℕ) → saving ≡ refuse n → AllTold n b m old
  unfolding number records_after images_after slot_after
  nothing n e = rw e (refl, (refl, (refl, refl)))

  pub save_eleven : (length i ≡ SIZE → ⊥) → AllTold 11 b m old
  unfolding save
  save_eleven h = nothing 11 (rw (ne_eqb (length i) SIZE h))

  module _ (h : length i ≡ SIZE) where
    pub save_room : (length old ≡ 1 → ⊥) → AllTold 12 b m old
    unfolding save
    save_room r = nothing 12 (rw (eq-eqb (length i) SIZE h, ne_eqb (length old) 1 r))

    module _ (r : length old ≡ 1) where
      reached : saving ≡ Shelf.save (records b) (length m) (Image.state i) f
      unfolding save
      reached = rw (eq-eqb (length i) SIZE h, eq-eqb (length old) 1 r)

      pub save_twelve : (length b ≡ RECORDS → ⊥) → AllTold 12 b m old
      unfolding Shelf.save lent
      save_twelve t = nothing 12 (reached ∙ ap (λ (l : List Slot). Shelf.save l (length m) (Image.state i) f) (no_records b t) ∙ judged_not 0 (length m) refuse (Shelf.save_lent [] (Image.state i) f) refl)

      module _ (l after : List Slot) (s : State) (a : Saved) (now : List ℕ) (p : l ≡ records b) (o : s ≡ Image.state i) (q : SaveDone l m s f a after now) where
        decided : Shelf.save l (length m) s f ≡ saving
        decided = (λ j. Shelf.save (p j) (length m) (o j) f) ∙ sym reached

        numbered_save : a.number ≡ number saving
        numbered_save = ap (λ (x : Saved). x.number) q.answer ∙ ap number decided

        pub save_refused : (a.number ≡ 0 → ⊥) → AllTold a.number b now old
        unfolding images_after
        save_refused z =
            let e = refused_is saving (λ w. z (numbered_save ∙ w)) in
            let t = nothing (number saving) e in
            (numbered_save, (t.1.0, (q.images ∙ (λ j. images_after (decided j) (Image.image (o j)) m), t.1.1.1)))

        accepted : a.number ≡ 0 → saving ≡ change (free (records b)) (record { users = 1; frame = f })
        accepted z = reached ∙ accepted_save (records b) (length m) (Image.state i) f (ap number (sym reached) ∙ sym numbered_save ∙ z)

        slot_is : a.number ≡ 0 → a.slot ≡ free (records b)
        unfolding slot_of
        slot_is z = ap (λ (x : Saved). x.slot) q.answer ∙ ap slot_of (decided ∙ accepted z)

        pub save_taken : a.number ≡ 0 → (new : List ℕ) → new ≡ bytes_of_records after → (n : ℕ) → n ≡ a.slot → AllTold 0 new now (set old 0 n)
        unfolding records_after slots_after slot_after
        save_taken z new e n c =
            let g = accepted z in
            let t : after ≡ slots_after saving (records b) = q.slots ∙ (λ j. slots_after (decided j) (p j)) in
            (sym z ∙ numbered_save, (e ∙ ap bytes_of_records t ∙ rw g, (q.images ∙ (λ j. images_after (decided j) (Image.image (o j)) m), one old r ∙ rw g (ap (λ (x : ℕ). x ∷ []) (c ∙ slot_is z)))))
          where
            one : (x : List ℕ) → length x ≡ 1 → set x 0 n ≡ n ∷ []
            one [] w = absurd (omega arith)
            one (y ∷ []) w = refl
            one (y ∷ (y' ∷ x)) w = absurd (omega arith)

-- a save answers one of sixteen slots
pub slot_small : (l : List Slot) (room : ℕ) (s : State) (f : ℕ) → slot_of (Shelf.save l room s f) < SLOTS
unfolding Shelf.save Shelf.save_lent judged slot_of
slot_small l room s f = by (lent (length l) room) (ltb (free l) SLOTS) (obeys s) refl
  where
    by : (x y z : Bool) → ltb (free l) SLOTS ≡ y → slot_of (cond x (cond y (cond z (change (free l) (record { users = 1; frame = f })) (refuse 5)) (refuse 14)) (refuse 12)) < SLOTS
    by true true true e = ltb-true (free l) SLOTS e
    by true true false e = omega arith
    by true false z e = omega arith
    by false y z e = omega arith

-- ---- a fetch
module _ (b m old : List ℕ) (k : ℕ) where
  abbrev pub Fetches : ℕ → List ℕ → Type 0
  Fetches n i = (n ≡ fetch_number b m k (length old)) × (i ≡ fetch_image b m k old)

  pub fetch_eleven : (length old ≡ SIZE → ⊥) → Fetches 11 old
  unfolding fetch_number fetch_image
  fetch_eleven h = rw (ne_eqb (length old) SIZE h) (refl, refl)

  module _ (h : length old ≡ SIZE) where
    pub fetch_told : (l : List Slot) (t : Fetched) (i : List ℕ) → l ≡ records b → t ≡ Shelf.fetch l m k → i ≡ Image.image t.state → Fetches t.number i
    unfolding fetch_number fetch_image
    fetch_told l t i p q e =
        let g : t ≡ Shelf.fetch (records b) m k = q ∙ ap (λ (x : List Slot). Shelf.fetch x m k) p in
        rw (eq-eqb (length old) SIZE h) (ap (λ (x : Fetched). x.number) g, e ∙ ap (λ (x : Fetched). Image.image x.state) g)

    pub fetch_twelve : (length b ≡ RECORDS → ⊥) → (s : State) (i : List ℕ) → s ≡ all_zero → i ≡ Image.image s → Fetches 12 i
    unfolding Shelf.fetch lent
    fetch_twelve t s i z e = fetch_told [] (not_fetched 12) i (sym (no_records b t)) (sym (judged_not 0 (length m) not_fetched (Shelf.fetch_lent [] m k) refl)) (e ∙ ap Image.image z)
