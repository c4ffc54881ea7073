-- Any sequence of calls over bytes that only these calls write: what the bytes stand for after it is what the shelf's calls lead to, so that users-counted, fetched,
-- unheld, used-again and lowest (April of shelf) say it of a player in C too.
use Rattle.std.specs.Prelude.{ℕ, zero, suc, ◌<◌, ◌≡◌, Bool, cond, ◌&&◌, List, [], ◌∷◌, ◌++◌, length, set, replicate}
use Rattle.std.proofs.Math.Path.{refl}
use Rattle.std.proofs.Common.{sym, ap, ◌∙◌, subst, arith, eq-eqb}
use Rattle.std.proofs.Math.Bool.{true, false}
use Rattle.std.proofs.Math.Dec.{eqb}
use Rattle.sequence.specs.Table.{table}
use Rattle.state.specs.State.{all_zero}
use Rattle.image.specs.Bytes.{Bytes, number_at, bytes_append, bytes_of_lem}
use Rattle.image.specs.Image as Image
use Rattle.image.specs.Image.{SIZE}
use Rattle.image.specs.RoundTrips.{state_held}
use Rattle.slots.specs.declared.Slot.{Slot}
use Rattle.slot_users.specs.Users.{SLOTS, Decision, refuse, change, users}
use Rattle.shelf.specs.Shelf as Shelf
use Rattle.shelf.specs.Shelf.{ROOM, slots_after, images_after}
use Rattle.shelf.specs.Run as Run
use Rattle.shelf.specs.April as April
use Rattle.desk_records.specs.Records.{RECORDS, record_bytes, bytes_of_records, record_at, records}
use Rattle.desk_shelf.specs.Calls as Calls
use Rattle.desk_shelf.specs.Calls.{records_after, saved_image, fetch_number, fetch_image}
use Rattle.desk_records.specs.RoundTrips.{HeldSlots}
use Rattle.desk_shelf.specs.Same.{Sound, records_held, set_held, hold_sound, let_go_sound, save_sound, sound_same}

pub record Buffers : Type 0 where
  pub slots : List ℕ
  pub images : List ℕ

-- as a player lends them at first
unfoldable pub zeros : Buffers
zeros = record { slots = replicate RECORDS 0; images = replicate ROOM 0 }

-- a save of an image and a frame number, with so many bytes for the slot's number; the others of a slot
pub data Call : Type 0 where
  save : List ℕ → ℕ → ℕ → Call
  hold : ℕ → Call
  let_go : ℕ → Call
  fetch : ℕ → Call

module _ (h : Buffers) where
  abbrev pub saving : List ℕ → ℕ → ℕ → Decision
  saving i f n = Calls.save h.slots (length h.images) i f n

  -- the buffers after a call
  unfoldable pub after : Call → Buffers
  after (save i f n) = record { slots = records_after (saving i f n) h.slots; images = images_after (saving i f n) (saved_image i) h.images }
  after (hold k) = record { slots = records_after (Calls.hold h.slots (length h.images) k) h.slots; images = h.images }
  after (let_go k) = record { slots = records_after (Calls.let_go h.slots (length h.images) k) h.slots; images = h.images }
  after (fetch k) = h

unfoldable pub run : Buffers → List Call → Buffers
run h [] = h
run h (c ∷ cs) = run (after h c) cs

-- the shelf that buffers stand for, and the calls on it: a save of another length than it asks for is none
abbrev pub shelf_of : Buffers → Run.Shelf
shelf_of h = record { slots = records h.slots; images = h.images }

unfoldable pub on_shelf : Call → List Run.Call
on_shelf (save i f n) = cond (eqb (length i) SIZE && eqb n 1) (Run.save (Image.state i) f ∷ []) []
on_shelf (hold k) = Run.hold k ∷ []
on_shelf (let_go k) = Run.let_go k ∷ []
on_shelf (fetch k) = Run.fetch k ∷ []

unfoldable pub calls_on : List Call → List Run.Call
calls_on [] = []
calls_on (c ∷ cs) = on_shelf c ++ calls_on cs

-- what C can lend: bytes, and a frame number of 32 bits
unfoldable pub Lent : Call → Type 0
Lent (save i f n) = Bytes i × (f < 4294967296)
Lent (hold k) = Unit {0}
Lent (let_go k) = Unit {0}
Lent (fetch k) = Unit {0}

unfoldable pub AllLent : List Call → Type 0
AllLent [] = Unit {0}
AllLent (c ∷ cs) = Lent c × AllLent cs

-- ---- bytes stay bytes
records_bytes : (l : List Slot) → HeldSlots l → Bytes (bytes_of_records l)
unfolding bytes_of_records record_bytes
records_bytes [] h = λ k. omega arith
records_bytes (s ∷ l) h = bytes_append (record_bytes s) (bytes_of_records l) one (records_bytes l (λ k. h (suc k)))
  where
    one : Bytes (record_bytes s)
    one zero = (h 0).users_held
    one (suc k) = bytes_of_lem 4 s.frame k

sound_bytes : (d : Decision) (b : List ℕ) → Bytes b → Sound (records b) d → Bytes (records_after d b)
unfolding Sound records_after
sound_bytes (refuse n) b h g = h
sound_bytes (change k s) b h g = records_bytes (set (records b) k s) (set_held (records b) k s (records_held b h) g.1)

-- ---- one call
module _ (h : Buffers) (g : Bytes h.slots) where
  held : HeldSlots (records h.slots)
  held = records_held h.slots g

  abbrev Right : Call → Type 0
  Right c = Bytes (after h c).slots × (shelf_of (after h c) ≡ Run.run (shelf_of h) (on_shelf c))

  by_decision : (d : Decision) → Sound (records h.slots) d → (m : List ℕ) → Bytes (records_after d h.slots) × (◌≡◌ {A = Run.Shelf} (record { slots = records (records_after d h.slots); images = m }) (record { slots = slots_after d (records h.slots); images = m }))
  by_decision d s m = (sound_bytes d h.slots g s, ap (λ (l : List Slot). record { slots = l; images = m }) (sound_same d h.slots g s))

  save_right : (i : List ℕ) (f n : ℕ) → f < 4294967296 → Right (save i f n)
  unfolding after on_shelf Run.run Run.after Calls.save records_after images_after
  save_right i f n w = by (eqb (length i) SIZE) (eqb n 1) refl refl
    where
      by : (x y : Bool) → eqb (length i) SIZE ≡ x → eqb n 1 ≡ y → Right (save i f n)
      by false y p q = rw p (g, refl)
      by true false p q = rw (p, q) (g, refl)
      by true true p q =
          let d = Shelf.save (records h.slots) (length h.images) (Image.state i) f in
          rw (p, q) (by_decision d (save_sound (records h.slots) (length h.images) held (Image.state i) f w) (images_after d (saved_image i) h.images))

  pub call_right : (c : Call) → Lent c → Right c
  unfolding Lent after on_shelf Run.run Run.after Calls.hold Calls.let_go
  call_right (save i f n) w = save_right i f n w.1
  call_right (hold k) w = by_decision (Calls.hold h.slots (length h.images) k) (hold_sound (records h.slots) (length h.images) held k) h.images
  call_right (let_go k) w = by_decision (Calls.let_go h.slots (length h.images) k) (let_go_sound (records h.slots) (length h.images) held k) h.images
  call_right (fetch k) w = (g, refl)

-- ---- a sequence
run_append : (s : Run.Shelf) (a b : List Run.Call) → Run.run s (a ++ b) ≡ Run.run (Run.run s a) b
unfolding Run.run
run_append s [] b = refl
run_append s (c ∷ a) b = run_append (Run.after s c) a b

pub run_same : (h : Buffers) → Bytes h.slots → (cs : List Call) → AllLent cs → shelf_of (run h cs) ≡ Run.run (shelf_of h) (calls_on cs)
unfolding run calls_on AllLent Run.run
run_same h g [] w = refl
run_same h g (c ∷ cs) w =
    let r = call_right h g c w.0 in
    run_same (after h c) r.0 cs w.1 ∙ ap (λ (s : Run.Shelf). Run.run s (calls_on cs)) r.1 ∙ sym (run_append (shelf_of h) (on_shelf c) (calls_on cs))

pub zeros_same : shelf_of zeros ≡ Run.zeros
unfolding zeros records table record_at number_at Run.zeros
zeros_same = refl

zeros_bytes : (n : ℕ) → Bytes (replicate n 0)
zeros_bytes zero k = omega arith
zeros_bytes (suc n) zero = omega arith
zeros_bytes (suc n) (suc k) = zeros_bytes n k

-- from zeros, after any calls
pub after_calls : (cs : List Call) → AllLent cs → shelf_of (run zeros cs) ≡ Run.run Run.zeros (calls_on cs)
unfolding zeros
after_calls cs w = run_same zeros (zeros_bytes RECORDS) cs w ∙ ap (λ (s : Run.Shelf). Run.run s (calls_on cs)) zeros_same

-- the states that were saved, a program can hold
pub holdable : (cs : List Call) → AllLent cs → Run.Holdable (calls_on cs)
unfolding calls_on on_shelf AllLent Lent Run.Holdable Run.HeldCall
holdable [] w = tt
holdable (save i f n ∷ cs) w = by (eqb (length i) SIZE && eqb n 1) (holdable cs w.1)
  where
    by : (t : Bool) → Run.Holdable (calls_on cs) → Run.Holdable (cond t (Run.save (Image.state i) f ∷ []) [] ++ calls_on cs)
    by true r = (state_held i w.0.0, r)
    by false r = r
holdable (hold k ∷ cs) w = (tt, holdable cs w.1)
holdable (let_go k ∷ cs) w = (tt, holdable cs w.1)
holdable (fetch k ∷ cs) w = (tt, holdable cs w.1)

-- **while a slot has users, a fetch into an image is accepted and writes the image of the state last saved there**
pub fetched_image : (cs : List Call) → AllLent cs → (k : ℕ) → k < SLOTS → 0 < users (records (run zeros cs).slots) k → (old : List ℕ) → length old ≡ SIZE
    → (fetch_number (run zeros cs).slots (run zeros cs).images k SIZE ≡ 0) × (fetch_image (run zeros cs).slots (run zeros cs).images k old ≡ Image.image (Run.last_saved k all_zero Run.zeros (calls_on cs)))
unfolding fetch_number fetch_image
fetched_image cs w k l u old e =
    let a = after_calls cs w in
    let v = subst (λ (s : Run.Shelf). 0 < users s.slots k) a u in
    let f = ap (λ (s : Run.Shelf). Shelf.fetch s.slots s.images k) a ∙ April.fetched k (calls_on cs) (holdable cs w) l v in
    rw (eq-eqb (length old) SIZE e, f) (refl, refl)
