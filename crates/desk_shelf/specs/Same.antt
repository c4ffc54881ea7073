-- A call over bytes is the shelf's call on the records that the bytes stand for; so April's theorem speaks of any sequence of such calls.
use Rattle.std.specs.Prelude.{ℕ, zero, suc, ◌+◌, ◌*◌, ◌<◌, ◌≤◌, ◌≡◌, Bool, cond, List, [], ◌∷◌, length, get_or, set}
use Rattle.std.proofs.Math.Path.{refl, ap}
use Rattle.std.proofs.Common.{◌∙◌, length-set}
use Rattle.std.proofs.Math.Bool.{true, false}
use native.Mathlib.Omega.{arith}
use borrow.Author.Tests.{eq-eqb, eqb-false, ltb-true, ltb-false}
use Rattle.std.proofs.Math.Dec.{eqb, ltb}
use Rattle.std.proofs.Math.ListN.{get_or-eq_default}
use Rattle.sequence.specs.Table.{table, length_table, get_or_table}
use Rattle.state.specs.declared.State.{State}
use Rattle.state.specs.State.{obeys}
use Rattle.image.specs.Bytes.{Bytes, number_below}
use Rattle.image.specs.Image as Image
use Rattle.image.specs.Image.{SIZE}
use Rattle.slots.specs.declared.Slot.{Slot}
use Rattle.slots.specs.Slots.{no_slot}
use Rattle.slot_users.specs.Users as Users
use Rattle.slot_users.specs.Users.{SLOTS, Decision, refuse, change, of_held, users, free}
use Rattle.shelf.specs.Shelf as Shelf
use Rattle.shelf.specs.Shelf.{lent, judged, slots_after}
use Rattle.shelf.specs.Cases.{lent_means}
use Rattle.desk_records.specs.Records.{RECORDS, record_at, records}
use Rattle.desk_shelf.specs.Calls.{records_after, hold, let_go, save}
use Rattle.desk_records.specs.RoundTrips.{HeldSlot, HeldSlots, records_back}

-- ---- what bytes stand for, a program can hold
none_held : HeldSlot no_slot
none_held = record { users_held = omega arith; frame_held = omega arith }

pub records_held : (b : List ℕ) → Bytes b → HeldSlots (records b)
unfolding records record_at
records_held b h k = by (eqb (length b) RECORDS)
  where
    at : (t : Bool) → ltb k SLOTS ≡ t → HeldSlot (get_or (table (record_at b) SLOTS) k no_slot)
    at true e = rw (get_or_table (record_at b) SLOTS k no_slot (ltb-true k SLOTS e)) (record { users_held = h (5 * k); frame_held = number_below 4 b h (5 * k + 1) })
    at false e =
        let n = length_table (record_at b) SLOTS in
        let m : length (table (record_at b) SLOTS) ≤ k = omega (arith, ltb-false k SLOTS e) in
        rw (get_or-eq_default (table (record_at b) SLOTS) no_slot m) none_held

    by : (t : Bool) → HeldSlot (get_or (cond t (table (record_at b) SLOTS) []) k no_slot)
    by true = at (ltb k SLOTS) refl
    by false = none_held

pub set_held : (l : List Slot) (j : ℕ) (s : Slot) → HeldSlots l → HeldSlot s → HeldSlots (set l j s)
set_held [] j s h g k = h k
set_held (x ∷ l) zero s h g zero = g
set_held (x ∷ l) zero s h g (suc k) = h (suc k)
set_held (x ∷ l) (suc j) s h g zero = h 0
set_held (x ∷ l) (suc j) s h g (suc k) = set_held l j s (λ i. h (suc i)) g k

-- ---- what a call on such records decides, a program can hold too
unfoldable pub Sound : List Slot → Decision → Type 0
Sound l (refuse n) = Unit {0}
Sound l (change k s) = (length l ≡ SLOTS) × HeldSlot s

module _ (l : List Slot) (room : ℕ) (h : HeldSlots l) where
  pub hold_sound : (j : ℕ) → Sound l (Shelf.hold l room j)
  unfolding Shelf.hold Users.hold_lent judged of_held Sound
  hold_sound j = by (lent (length l) room) (ltb j SLOTS) (eqb (users l j) 0) (eqb (users l j) 255) refl refl refl refl
    where
      by : (a b c d : Bool) → lent (length l) room ≡ a → ltb j SLOTS ≡ b → eqb (users l j) 0 ≡ c → eqb (users l j) 255 ≡ d → Sound l (Shelf.hold l room j)
      by false b c d p q r s = rw p tt
      by true false c d p q r s = rw (p, q) tt
      by true true true d p q r s = rw (p, q, r) tt
      by true true false true p q r s = rw (p, q, r, s) tt
      by true true false false p q r s =
          let n = eqb-false (users l j) 255 s in
          let w = h j in
          let m = w.users_held in
          rw (p, q, r, s) ((lent_means (length l) room p).0, record { users_held = by_less (users l j) m n; frame_held = w.frame_held })
        where
          by_less : (u : ℕ) → u < 256 → (u ≡ 255 → ⊥) → u + 1 < 256
          by_less u m n = omega arith

  pub let_go_sound : (j : ℕ) → Sound l (Shelf.let_go l room j)
  unfolding Shelf.let_go Users.let_go_lent judged of_held Sound
  let_go_sound j = by (lent (length l) room) (ltb j SLOTS) (eqb (users l j) 0) refl refl refl
    where
      by : (a b c : Bool) → lent (length l) room ≡ a → ltb j SLOTS ≡ b → eqb (users l j) 0 ≡ c → Sound l (Shelf.let_go l room j)
      by false b c p q r = rw p tt
      by true false c p q r = rw (p, q) tt
      by true true true p q r = rw (p, q, r) tt
      by true true false p q r = let w = h j in let m = w.users_held in rw (p, q, r) ((lent_means (length l) room p).0, record { users_held = omega arith; frame_held = w.frame_held })

  pub save_sound : (s : State) (f : ℕ) → f < 4294967296 → Sound l (Shelf.save l room s f)
  unfolding Shelf.save Shelf.save_lent judged Sound
  save_sound s f g = by (lent (length l) room) (ltb (free l) SLOTS) (obeys s) refl refl refl
    where
      by : (a b c : Bool) → lent (length l) room ≡ a → ltb (free l) SLOTS ≡ b → obeys s ≡ c → Sound l (Shelf.save l room s f)
      by false b c p q r = rw p tt
      by true false c p q r = rw (p, q) tt
      by true true false p q r = rw (p, q, r) tt
      by true true true p q r = rw (p, q, r) ((lent_means (length l) room p).0, record { users_held = omega arith; frame_held = g })

-- ---- so the bytes after a call stand for the records after it
pub sound_same : (d : Decision) (b : List ℕ) → Bytes b → Sound (records b) d → records (records_after d b) ≡ slots_after d (records b)
unfolding Sound records_after slots_after
sound_same (refuse n) b h g = refl
sound_same (change k s) b h g = records_back (set (records b) k s) (length-set (records b) k s ∙ g.0) (set_held (records b) k s (records_held b h) g.1)

module _ (b : List ℕ) (room : ℕ) (h : Bytes b) where
  pub hold_same : (k : ℕ) → records (records_after (hold b room k) b) ≡ slots_after (Shelf.hold (records b) room k) (records b)
  unfolding hold
  hold_same k = sound_same (hold b room k) b h (hold_sound (records b) room (records_held b h) k)

  pub let_go_same : (k : ℕ) → records (records_after (let_go b room k) b) ≡ slots_after (Shelf.let_go (records b) room k) (records b)
  unfolding let_go
  let_go_same k = sound_same (let_go b room k) b h (let_go_sound (records b) room (records_held b h) k)

  pub save_same : (i : List ℕ) (f : ℕ) → length i ≡ SIZE → f < 4294967296
      → (save b room i f 1 ≡ Shelf.save (records b) room (Image.state i) f) × (records (records_after (save b room i f 1) b) ≡ slots_after (Shelf.save (records b) room (Image.state i) f) (records b))
  unfolding save
  save_same i f e g =
      let d : save b room i f 1 ≡ Shelf.save (records b) room (Image.state i) f = rw (eq-eqb (length i) SIZE e) in
      (d, ap (λ (q : Decision). records (records_after q b)) d ∙ sound_same (Shelf.save (records b) room (Image.state i) f) b h (save_sound (records b) room (records_held b h) (Image.state i) f g))
