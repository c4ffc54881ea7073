-- The April fault. The first words of nine calls were spoken through the filter of the call before: a saved state had been let go while a player still pointed at it.
-- Whoever let go first had freed the slot for all, the next save took it, and the player went on decoding from another call's state: one that obeys the rule, so
-- nothing refused it, and the sound was wrong. A count of users that goes past what a byte holds and begins at 0 again would lead to the same.
-- Here it cannot happen. A slot has as many users as calls took it less those that let it go, a hold past 255 is refused, and a save takes no slot that has users.
-- So of every sequence of calls, in any order and with any numbers, on a shelf that began as zeros and that only these calls write:
--     users-counted   a slot's users are its accepted saves and holds less its accepted lettings-go
--     fetched         while there are any, a fetch is accepted and gives exactly the state last saved there
--     unheld          where there are none, a fetch, a hold and a letting-go are refused with 13
--     used-again      and a save takes the slot, once none below it is without users
--     lowest          a save takes a slot without users, and none below it is without
-- A call is accepted where it answers 0; accepted-save, accepted-hold and accepted-let-go say what it then has decided, for any slices.
use Rattle.std.specs.Prelude.{ℕ, suc, ◌+◌, ◌-◌, ◌<◌, ◌≡◌, Bool, length, set, replicate}
use Rattle.std.proofs.Math.Path.{refl, ap}
use Rattle.std.proofs.Common.{sym, ◌∙◌, length-set, get_or-set_same, get_or-set_other}
use mathlib.Core.List.{List, [], ◌∷◌}
use Rattle.std.proofs.Math.Bool.{true, false, cond}
use native.Mathlib.Omega.{arith}
use Rattle.std.proofs.Math.Dec.{eqb, ltb}
use borrow.Author.Tests.{eqb-true, eqb-false, ltb-true, ltb-false, lt-ltb}
use Rattle.std.proofs.lemmas.List.{length-replicate, get_or-replicate}
use Rattle.std.proofs.Math.ListN.{get_or-eq_default}
use Rattle.sequence.specs.First.{first_at, first_before}
use Rattle.state.specs.declared.State.{State}
use Rattle.state.specs.State.{all_zero, obeys}
use Rattle.image.specs.Image as Image
use Rattle.image.specs.Image.{Held}
use Rattle.image.specs.RoundTrips.{length_image}
use Rattle.slots.specs.declared.Slot.{Slot}
use Rattle.slots.specs.Slots.{no_slot}
use Rattle.slot_users.specs.Users as Users
use Rattle.slot_users.specs.Users.{SLOTS, users, slot_at, free, of_held, Decision, refuse, change}
use Rattle.slot_users.specs.Held.{held_out, held_none, held_yes}
use Rattle.shelf.specs.Shelf as Calls
use Rattle.shelf.specs.Shelf.{ROOM, state_at, with_image, lent, judged, not_fetched, number, slots_after, images_after}
use Rattle.shelf.specs.Cases.{judged_lent, is_lent}
use Rattle.shelf.specs.Images.{length_with, state_same, state_other}
use Rattle.shelf.specs.Run.{Shelf, zeros, Call, save, hold, let_go, fetch, saving, holding, letting_go, after, run, on, save1, hold1, let_go1, saves, holds, lettings, last1, last_saved, HeldCall, Holdable}

-- ---- which slot a save takes
idle : List Slot → ℕ → Bool
idle l k = eqb (users l k) 0

pub lowest : (l : List Slot) → free l < SLOTS → (users l (free l) ≡ 0) × ((j : ℕ) → j < free l → users l j ≡ 0 → ⊥)
unfolding free idle
lowest l h = (eqb-true (users l (free l)) 0 (first_at (idle l) SLOTS h), λ j p. eqb-false (users l j) 0 (first_before (idle l) SLOTS j p))

-- ---- each call is refused, or is carried out on a slot of which this much is known
data Holds (l : List Slot) (room j : ℕ) : Type 0 where
  refused : (n : ℕ) → Calls.hold l room j ≡ refuse (suc n) → Holds l room j
  done : Calls.hold l room j ≡ change j (record { users = users l j + 1; frame = (slot_at l j).frame }) → j < SLOTS → (users l j ≡ 0 → ⊥) → Holds l room j

see_hold : (l : List Slot) (room j : ℕ) → Holds l room j
unfolding Calls.hold Users.hold_lent judged of_held
see_hold l room j = by (lent (length l) room) (ltb j SLOTS) (eqb (users l j) 0) (eqb (users l j) 255) refl refl refl refl
  where
    by : (a b c d : Bool) → lent (length l) room ≡ a → ltb j SLOTS ≡ b → eqb (users l j) 0 ≡ c → eqb (users l j) 255 ≡ d → Holds l room j
    by false b c d p q r s = refused 11 (rw p)
    by true false c d p q r s = refused 12 (rw (p, q))
    by true true true d p q r s = refused 12 (rw (p, q, r))
    by true true false true p q r s = refused 13 (rw (p, q, r, s))
    by true true false false p q r s = done (rw (p, q, r, s)) (ltb-true j SLOTS q) (eqb-false (users l j) 0 r)

data LetsGo (l : List Slot) (room j : ℕ) : Type 0 where
  refused : (n : ℕ) → Calls.let_go l room j ≡ refuse (suc n) → LetsGo l room j
  done : Calls.let_go l room j ≡ change j (record { users = users l j - 1; frame = (slot_at l j).frame }) → j < SLOTS → (users l j ≡ 0 → ⊥) → LetsGo l room j

see_let_go : (l : List Slot) (room j : ℕ) → LetsGo l room j
unfolding Calls.let_go Users.let_go_lent judged of_held
see_let_go l room j = by (lent (length l) room) (ltb j SLOTS) (eqb (users l j) 0) refl refl refl
  where
    by : (a b c : Bool) → lent (length l) room ≡ a → ltb j SLOTS ≡ b → eqb (users l j) 0 ≡ c → LetsGo l room j
    by false b c p q r = refused 11 (rw p)
    by true false c p q r = refused 12 (rw (p, q))
    by true true true p q r = refused 12 (rw (p, q, r))
    by true true false p q r = done (rw (p, q, r)) (ltb-true j SLOTS q) (eqb-false (users l j) 0 r)

data Saves (l : List Slot) (room : ℕ) (s : State) (f : ℕ) : Type 0 where
  refused : (n : ℕ) → Calls.save l room s f ≡ refuse (suc n) → Saves l room s f
  done : Calls.save l room s f ≡ change (free l) (record { users = 1; frame = f }) → free l < SLOTS → obeys s ≡ true → Saves l room s f

-- what becomes of the slot of a save
abbrev SavesOne : Type 0
SavesOne = (l : List Slot) (s : State) (f : ℕ) → Calls.save_lent l s f ≡ cond (ltb (free l) SLOTS) (cond (obeys s) (change (free l) (record { users = 1; frame = f })) (refuse 5)) (refuse 14)

see_save : SavesOne → (l : List Slot) (room : ℕ) (s : State) (f : ℕ) → Saves l room s f
unfolding Calls.save judged
see_save one l room s f = by (lent (length l) room) (ltb (free l) SLOTS) (obeys s) refl refl refl
  where
    by : (a b c : Bool) → lent (length l) room ≡ a → ltb (free l) SLOTS ≡ b → obeys s ≡ c → Saves l room s f
    by false b c p q r = refused 11 (rw p)
    by true false c p q r = refused 13 (rw (p, one l s f, q))
    by true true false p q r = refused 4 (rw (p, one l s f, q, r))
    by true true true p q r = done (rw (p, one l s f, q, r)) (ltb-true (free l) SLOTS q) r

-- ---- what an answer of 0 says
module _ (l : List Slot) (room : ℕ) where
  pub accepted_hold : (j : ℕ) → number (Calls.hold l room j) ≡ 0 → Calls.hold l room j ≡ change j (record { users = users l j + 1; frame = (slot_at l j).frame })
  unfolding number
  accepted_hold j e = by (see_hold l room j)
    where
      by : Holds l room j → Calls.hold l room j ≡ change j (record { users = users l j + 1; frame = (slot_at l j).frame })
      by (refused n p) = absurd (let w = ap number p in omega arith)
      by (done p q r) = p

  pub accepted_let_go : (j : ℕ) → number (Calls.let_go l room j) ≡ 0 → Calls.let_go l room j ≡ change j (record { users = users l j - 1; frame = (slot_at l j).frame })
  unfolding number
  accepted_let_go j e = by (see_let_go l room j)
    where
      by : LetsGo l room j → Calls.let_go l room j ≡ change j (record { users = users l j - 1; frame = (slot_at l j).frame })
      by (refused n p) = absurd (let w = ap number p in omega arith)
      by (done p q r) = p

  pub accepted_save : (s : State) (f : ℕ) → number (Calls.save l room s f) ≡ 0 → Calls.save l room s f ≡ change (free l) (record { users = 1; frame = f })
  unfolding number Calls.save_lent
  accepted_save s f e = by (see_save (λ l s f. refl) l room s f)
    where
      by : Saves l room s f → Calls.save l room s f ≡ change (free l) (record { users = 1; frame = f })
      by (refused n p) = absurd (let w = ap number p in omega arith)
      by (done p q r) = p

-- ---- the sizes stay as they are
pub record Sized (h : Shelf) : Type 0 where
  pub records : length h.slots ≡ SLOTS
  pub bytes : length h.images ≡ ROOM

slots_long : (d : Decision) (l : List Slot) → length (slots_after d l) ≡ length l
unfolding slots_after
slots_long (refuse n) l = refl
slots_long (change k s) l = length-set l k s

images_long : SavesOne → (l : List Slot) (m : List ℕ) (s : State) (f : ℕ) → Held s → length m ≡ ROOM → length (images_after (Calls.save l (length m) s f) (Image.image s) m) ≡ ROOM
unfolding images_after
images_long one l m s f g e = by (see_save one l (length m) s f)
  where
    by : Saves l (length m) s f → length (images_after (Calls.save l (length m) s f) (Image.image s) m) ≡ ROOM
    by (refused n p) = rw p e
    by (done p q r) = rw p (length_with m e (free l) (Image.image s) q (length_image s g))

records_long : (h : Shelf) (c : Call) → length (after h c).slots ≡ length h.slots
unfolding after
records_long h (save s f) = slots_long (saving h s f) h.slots
records_long h (hold k) = slots_long (holding h k) h.slots
records_long h (let_go k) = slots_long (letting_go h k) h.slots
records_long h (fetch k) = refl

sized : SavesOne → (h : Shelf) (c : Call) → HeldCall c → Sized h → Sized (after h c)
unfolding after HeldCall
sized one h (save s f) g z = record { records = records_long h (save s f) ∙ z.records; bytes = images_long one h.slots h.images s f g z.bytes }
sized one h (hold k) g z = record { records = records_long h (hold k) ∙ z.records; bytes = z.bytes }
sized one h (let_go k) g z = record { records = records_long h (let_go k) ∙ z.records; bytes = z.bytes }
sized one h (fetch k) g z = z

sized_run : SavesOne → (h : Shelf) (cs : List Call) → Holdable cs → Sized h → Sized (run h cs)
unfolding run Holdable
sized_run one h [] g z = z
sized_run one h (c ∷ cs) g z = sized_run one (after h c) cs g.1 (sized one h c g.0 z)

zeros_sized : Sized zeros
unfolding zeros
zeros_sized = record { records = refl; bytes = length-replicate {A = ℕ} ROOM 0 }

-- ---- the users of a slot
-- after a change of slot j
users_set : (l : List Slot) (j k : ℕ) (s : Slot) → j < length l → users (set l j s) k ≡ cond (eqb j k) s.users (users l k)
users_set l j k s h = by (eqb j k) refl
  where
    by : (b : Bool) → eqb j k ≡ b → users (set l j s) k ≡ cond b s.users (users l k)
    by true e = let w = eqb-true j k e in ap (λ (i : ℕ). users (set l j s) i) (sym w) ∙ ap (λ (t : Slot). t.users) (get_or-set_same l j s no_slot h)
    by false e = ap (λ (t : Slot). t.users) (get_or-set_other l j k s no_slot (λ w. eqb-false j k e (sym w)))

plus_none : (n : ℕ) (b : Bool) → n + cond b 0 0 ≡ n
plus_none n true = omega arith
plus_none n false = omega arith

module _ (k : ℕ) where
  -- what is more on one side is more on the other
  set_counted : (l : List Slot) (j : ℕ) (s : Slot) (x y : ℕ) → j < length l → s.users + y ≡ users l j + x → users (set l j s) k + cond (eqb j k) y 0 ≡ users l k + cond (eqb j k) x 0
  set_counted l j s x y h e = rw (users_set l j k s h) (by (eqb j k) refl)
    where
      by : (b : Bool) → eqb j k ≡ b → cond b s.users (users l k) + cond b y 0 ≡ users l k + cond b x 0
      by true p = e ∙ ap (λ (i : ℕ). users l i + x) (eqb-true j k p)
      by false p = refl

  module _ (l : List Slot) (room : ℕ) (long : length l ≡ SLOTS) where
    save_counted : SavesOne → (s : State) (f : ℕ) → users (slots_after (Calls.save l room s f) l) k ≡ users l k + on k (Calls.save l room s f)
    unfolding slots_after on
    save_counted one s f = by (see_save one l room s f)
      where
        by : Saves l room s f → users (slots_after (Calls.save l room s f) l) k ≡ users l k + on k (Calls.save l room s f)
        by (refused n p) = rw p (omega arith)
        by (done p q r) =
            let z = (lowest l q).0 in
            rw p (sym (plus_none _ (eqb (free l) k)) ∙ set_counted l (free l) (record { users = 1; frame = f }) 1 0 (omega arith) (omega arith))

    hold_counted : (j : ℕ) → users (slots_after (Calls.hold l room j) l) k ≡ users l k + on k (Calls.hold l room j)
    unfolding slots_after on
    hold_counted j = by (see_hold l room j)
      where
        by : Holds l room j → users (slots_after (Calls.hold l room j) l) k ≡ users l k + on k (Calls.hold l room j)
        by (refused n p) = rw p (omega arith)
        by (done p q r) = rw p (sym (plus_none _ (eqb j k)) ∙ set_counted l j (record { users = users l j + 1; frame = (slot_at l j).frame }) 1 0 (omega arith) (omega arith))

    let_go_counted : (j : ℕ) → users (slots_after (Calls.let_go l room j) l) k + on k (Calls.let_go l room j) ≡ users l k
    unfolding slots_after on
    let_go_counted j = by (see_let_go l room j)
      where
        by : LetsGo l room j → users (slots_after (Calls.let_go l room j) l) k + on k (Calls.let_go l room j) ≡ users l k
        by (refused n p) = rw p (omega arith)
        by (done p q r) = rw p (set_counted l j (record { users = users l j - 1; frame = (slot_at l j).frame }) 0 1 (omega arith) (omega arith) ∙ plus_none _ (eqb j k))

  -- one call
  counted : SavesOne → (h : Shelf) (c : Call) → length h.slots ≡ SLOTS → users (after h c).slots k + let_go1 k h c ≡ users h.slots k + save1 k h c + hold1 k h c
  unfolding after save1 hold1 let_go1
  counted one h (save s f) z = let e = save_counted h.slots (length h.images) z one s f in omega arith
  counted one h (hold j) z = let e = hold_counted h.slots (length h.images) z j in omega arith
  counted one h (let_go j) z = let e = let_go_counted h.slots (length h.images) z j in omega arith
  counted one h (fetch j) z = omega arith

  -- a sequence, from any shelf of sixteen records
  users_from : SavesOne → (h : Shelf) (cs : List Call) → length h.slots ≡ SLOTS → users (run h cs).slots k + lettings k h cs ≡ users h.slots k + saves k h cs + holds k h cs
  unfolding run saves holds lettings
  users_from one h [] z = omega arith
  users_from one h (c ∷ cs) z = let e = users_from one (after h c) cs (records_long h c ∙ z) in let f = counted one h c z in omega arith

  zeros_free : users zeros.slots k ≡ 0
  unfolding zeros
  zeros_free = by (ltb k SLOTS) refl
    where
      by : (b : Bool) → ltb k SLOTS ≡ b → users zeros.slots k ≡ 0
      by true e = ap (λ (t : Slot). t.users) (get_or-replicate SLOTS k no_slot no_slot (ltb-true k SLOTS e))
      by false e = ap (λ (t : Slot). t.users) (get_or-eq_default (replicate SLOTS no_slot) no_slot (ltb-false k SLOTS e))

  -- **a slot's users are its accepted saves and holds less its accepted lettings-go**
  pub users_counted : (cs : List Call) → users (run zeros cs).slots k + lettings k zeros cs ≡ saves k zeros cs + holds k zeros cs
  unfolding Calls.save_lent
  users_counted cs = let e = users_from (λ l s f. refl) zeros cs zeros_sized.records in let z = zeros_free in omega arith

  -- ---- the state of a slot
  -- what slot k keeps while it has users: d, that obeys the rule
  abbrev Keeps : Shelf → State → Type 0
  Keeps h d = 0 < users h.slots k → (state_at k h.images ≡ d) × (obeys d ≡ true)

  -- a change of slot j, to a record that has users only where the slot had
  set_keeps : (h : Shelf) (d : State) (j : ℕ) (s : Slot) → j < length h.slots → (0 < s.users → 0 < users h.slots j) → Keeps h d → Keeps (record { slots = set h.slots j s; images = h.images }) d
  set_keeps h d j s l e g = λ p. g (by (eqb j k) refl (rw (users_set h.slots j k s l) at p))
    where
      by : (b : Bool) → eqb j k ≡ b → 0 < cond b s.users (users h.slots k) → 0 < users h.slots k
      by true q p = let w = ap (users h.slots) (eqb-true j k q) in let z = e p in omega arith
      by false q p = p

  module _ (h : Shelf) (d : State) (z : Sized h) (i : Keeps h d) where
    room : ℕ
    room = length h.images

    long : length h.slots ≡ SLOTS
    long = z.records

    save_keeps : SavesOne → (s : State) (f : ℕ) → Held s → Keeps (after h (save s f)) (last1 k d h (save s f))
    unfolding after last1 slots_after images_after on room long
    save_keeps one s f g = by (see_save one h.slots room s f)
      where
        -- the slot that is taken, and another
        at : (b : Bool) → eqb (free h.slots) k ≡ b → free h.slots < SLOTS → obeys s ≡ true → 0 < cond b 1 (users h.slots k)
            → (state_at k (with_image (free h.slots) (Image.image s) h.images) ≡ cond (eqb (cond b 1 0) 1) s d) × (obeys (cond (eqb (cond b 1 0) 1) s d) ≡ true)
        at true e q r u = (ap (λ (j : ℕ). state_at j (with_image (free h.slots) (Image.image s) h.images)) (sym (eqb-true (free h.slots) k e)) ∙ state_same h.images z.bytes (free h.slots) s q g, r)
        at false e q r u = let x = i u in (state_other h.images z.bytes (free h.slots) k s q g (eqb-false (free h.slots) k e) ∙ x.0, x.1)

        by : Saves h.slots room s f → Keeps (after h (save s f)) (last1 k d h (save s f))
        by (refused n p) = rw p i
        by (done p q r) = rw p (λ u. at (eqb (free h.slots) k) refl q r (rw (users_set h.slots (free h.slots) k (record { users = 1; frame = f }) (omega (arith, long))) at u))

    hold_keeps : (j : ℕ) → Keeps (after h (hold j)) d
    unfolding after slots_after room long
    hold_keeps j = by (see_hold h.slots room j)
      where
        by : Holds h.slots room j → Keeps (after h (hold j)) d
        by (refused n p) = rw p i
        by (done p q r) = rw p (set_keeps h d j (record { users = users h.slots j + 1; frame = (slot_at h.slots j).frame }) (omega (arith, long)) (λ _. omega arith) i)

    let_go_keeps : (j : ℕ) → Keeps (after h (let_go j)) d
    unfolding after slots_after room long
    let_go_keeps j = by (see_let_go h.slots room j)
      where
        by : LetsGo h.slots room j → Keeps (after h (let_go j)) d
        by (refused n p) = rw p i
        by (done p q r) = rw p (set_keeps h d j (record { users = users h.slots j - 1; frame = (slot_at h.slots j).frame }) (omega (arith, long)) (λ _. omega arith) i)

    call_keeps : SavesOne → (c : Call) → HeldCall c → Keeps (after h c) (last1 k d h c)
    unfolding HeldCall last1 after
    call_keeps one (save s f) g = save_keeps one s f g
    call_keeps one (hold j) g = hold_keeps j
    call_keeps one (let_go j) g = let_go_keeps j
    call_keeps one (fetch j) g = i

  -- a sequence, from any shelf of the right size
  keeps_from : SavesOne → (h : Shelf) (d : State) (cs : List Call) → Sized h → Holdable cs → Keeps h d → Keeps (run h cs) (last_saved k d h cs)
  unfolding run last_saved Holdable
  keeps_from one h d [] z g i = i
  keeps_from one h d (c ∷ cs) z g i = keeps_from one (after h c) (last1 k d h c) cs (sized one h c g.0 z) g.1 (call_keeps h d z i one c g.0)

  -- of a shelf of the right size, a call of a slot is refused by what is known of the slot alone
  lent_sized : (h : Shelf) → Sized h → lent (length h.slots) (length h.images) ≡ true
  lent_sized h z = rw (z.records, z.bytes) is_lent

  fetch_held : (h : Shelf) (d : State) → Sized h → k < SLOTS → 0 < users h.slots k → (state_at k h.images ≡ d) × (obeys d ≡ true) → Calls.fetch h.slots h.images k ≡ record { number = 0; state = d }
  unfolding Calls.fetch Calls.fetch_lent
  fetch_held h d z l u e = rw (judged_lent (length h.slots) (length h.images) not_fetched (Calls.fetch_lent h.slots h.images k) (lent_sized h z)) (held_yes h.slots k not_fetched _ l (λ w. omega arith) ∙ rw (e.0, e.1))

  none : {A : Type 0} (l : List Slot) (refuses : ℕ → A) (a : A) → users l k ≡ 0 → of_held l k refuses a ≡ refuses 13
  none l refuses a e = by (ltb k SLOTS) refl
    where
      by : (b : Bool) → ltb k SLOTS ≡ b → of_held l k refuses a ≡ refuses 13
      by true p = held_none l k refuses a (ltb-true k SLOTS p) e
      by false p = held_out l k refuses a (ltb-false k SLOTS p)

  module _ (h : Shelf) (z : Sized h) (e : users h.slots k ≡ 0) where
    fetch_none : Calls.fetch h.slots h.images k ≡ not_fetched 13
    unfolding Calls.fetch Calls.fetch_lent
    fetch_none = judged_lent _ _ _ _ (lent_sized h z) ∙ none h.slots not_fetched _ e

    hold_none : holding h k ≡ refuse 13
    unfolding Calls.hold Users.hold_lent
    hold_none = judged_lent _ _ _ _ (lent_sized h z) ∙ none h.slots refuse _ e

    let_go_none : letting_go h k ≡ refuse 13
    unfolding Calls.let_go Users.let_go_lent
    let_go_none = judged_lent _ _ _ _ (lent_sized h z) ∙ none h.slots refuse _ e

  judged_save : (h : Shelf) (s : State) (f : ℕ) → Sized h → saving h s f ≡ Calls.save_lent h.slots s f
  unfolding Calls.save
  judged_save h s f z = judged_lent _ _ _ _ (lent_sized h z)

  free_is : (l : List Slot) → k < SLOTS → users l k ≡ 0 → ((j : ℕ) → j < k → users l j ≡ 0 → ⊥) → free l ≡ k
  unfolding free idle
  free_is l h e b = by (ltb k (free l)) (ltb (free l) k) refl refl
    where
      by : (x y : Bool) → ltb k (free l) ≡ x → ltb (free l) k ≡ y → free l ≡ k
      by true y p q = absurd (eqb-false (users l k) 0 (first_before (idle l) SLOTS k (ltb-true k (free l) p)) e)
      by false true p q = let w = ltb-true (free l) k q in absurd (b (free l) w (lowest l (omega arith)).0)
      by false false p q = let v = ltb-false k (free l) p in let w = ltb-false (free l) k q in omega arith

  -- **while a slot has users, a fetch is accepted and gives exactly the state last saved there**
  pub fetched : (cs : List Call) → Holdable cs → k < SLOTS → 0 < users (run zeros cs).slots k
      → Calls.fetch (run zeros cs).slots (run zeros cs).images k ≡ record { number = 0; state = last_saved k all_zero zeros cs }
  unfolding Calls.save_lent
  fetched cs g l u =
      fetch_held (run zeros cs) (last_saved k all_zero zeros cs) (sized_run (λ l s f. refl) zeros cs g zeros_sized) l u (keeps_from (λ l s f. refl) zeros all_zero cs zeros_sized g (λ p. absurd (let e = zeros_free in omega arith)) u)

  -- **a slot without users is fetched, held and let go by nobody**
  pub unheld : (cs : List Call) → Holdable cs → users (run zeros cs).slots k ≡ 0
      → (Calls.fetch (run zeros cs).slots (run zeros cs).images k ≡ not_fetched 13) × (holding (run zeros cs) k ≡ refuse 13) × (letting_go (run zeros cs) k ≡ refuse 13)
  unfolding Calls.save_lent
  unheld cs g e =
      let h = run zeros cs in
      let z = sized_run (λ l s f. refl) zeros cs g zeros_sized in
      (fetch_none h z e, hold_none h z e, let_go_none h z e)

  -- **a slot without users is used again: a save takes it once it is the lowest**
  pub used_again : (cs : List Call) (s : State) (f : ℕ) → Holdable cs → obeys s ≡ true → k < SLOTS → users (run zeros cs).slots k ≡ 0 → ((j : ℕ) → j < k → users (run zeros cs).slots j ≡ 0 → ⊥)
      → saving (run zeros cs) s f ≡ change k (record { users = 1; frame = f })
  unfolding Calls.save_lent
  used_again cs s f g o l e b =
      let h = run zeros cs in
      let w = free_is h.slots l e b in
      let t : Calls.save_lent h.slots s f ≡ change (free h.slots) (record { users = 1; frame = f }) = rw (lt-ltb (free h.slots) SLOTS (omega arith), o) in
      judged_save h s f (sized_run (λ l s f. refl) zeros cs g zeros_sized) ∙ t ∙ ap (λ (j : ℕ). change j (record { users = 1; frame = f })) w
