-- What the functions answer, as the definitions have it; and what they read of the lent parts.
use Rattle.std.specs.Prelude.{ℕ, ◌≡◌, List, Bool, cond, length, set, Result, Ok, Err}
use Rattle.std.proofs.Math.Bool.{true, false}
use Rattle.std.proofs.Math.Path.{refl}
use Rattle.std.proofs.Common.{ap, sym, ◌∙◌}
use Rattle.refusal.specs.declared.Refusal.{Refusal}
use Rattle.refusal.specs.declared.Refusal.TheVariants.{ShelfLength}
use Rattle.refusal.specs.Numbers as Numbers
use Rattle.state.specs.declared.State.{State}
use Rattle.slots.specs.declared.Slot.{Slot}
use Rattle.slot_users.specs.Users.{Decision, refuse, change}
use Rattle.image.specs.Image as Image
use Rattle.shelf.specs.Shelf.{Saved, Fetched, not_fetched, lent, judged, number, slot_of, slots_after, images_after, with_image, save, Done, SaveDone}

-- the sixteen records, where the lent parts are of their sizes
abbrev pub lent_of : List Slot → ℕ → Result (List Slot) Refusal
lent_of l room = judged (length l) room (λ _. Err ShelfLength) (Ok l)

-- a save's answer
abbrev pub saved : Result ℕ Refusal → Saved
saved (Ok k) = record { number = 0; slot = k }
saved (Err r) = record { number = Numbers.number r; slot = 0 }

-- a fetch's
abbrev pub fetched : Result State Refusal → Fetched
fetched (Ok s) = record { number = 0; state = s }
fetched (Err r) = not_fetched (Numbers.number r)

-- what is known by the sixteen, or by their refusal
pub is_sixteen : (l s : List Slot) (room : ℕ) → lent_of l room ≡ Ok s → (s ≡ l) × (lent (length l) room ≡ true)
unfolding judged
is_sixteen l s room e = by (lent (length l) room) refl e
  where
    by : (b : Bool) → lent (length l) room ≡ b → ◌≡◌ {A = Result (List Slot) Refusal} (cond b (Ok l) (Err ShelfLength)) (Ok s) → (s ≡ l) × (lent (length l) room ≡ true)
    by true p e = (cc, p)
    by false p e = cc

pub not_sixteen : {A : Type 0} (l : List Slot) (room : ℕ) (refuses : ℕ → A) (a : A) (r : Refusal) → lent_of l room ≡ Err r → judged (length l) room refuses a ≡ refuses (Numbers.number r)
unfolding judged
not_sixteen l room refuses a r e = by (lent (length l) room) e
  where
    of : (x : Refusal) → ShelfLength ≡ x → refuses 12 ≡ refuses (Numbers.number x)
    of x w = ap (λ (y : Refusal). refuses (Numbers.number y)) w

    by : (b : Bool) → ◌≡◌ {A = Result (List Slot) Refusal} (cond b (Ok l) (Err ShelfLength)) (Err r) → cond b a (refuses 12) ≡ refuses (Numbers.number r)
    by true e = cc
    by false e = of r cc

-- a decision that is refused, and one that is carried out
pub done_not : (d : Decision) (l : List Slot) (n : ℕ) → d ≡ refuse n → Done d l n l
unfolding number slots_after
done_not d l n e = rw e (record { answer = refl; slots = refl })

pub done_yes : (d : Decision) (l after : List Slot) (k : ℕ) (s : Slot) → d ≡ change k s → after ≡ set l k s → Done d l 0 after
unfolding number slots_after
done_yes d l after k s e w = rw e (record { answer = refl; slots = w })

pub saved_not : (l : List Slot) (m : List ℕ) (s : State) (f n : ℕ) → save l (length m) s f ≡ refuse n → SaveDone l m s f (record { number = n; slot = 0 }) l m
unfolding number slot_of slots_after images_after
saved_not l m s f n e = let z : (d : Decision) → d ≡ refuse n → (number d ≡ n) × (slot_of d ≡ 0) × (slots_after d l ≡ l) × (images_after d (Image.image s) m ≡ m) = λ d w. rw w (refl, refl, refl, refl) in
    let y = z _ e in
    record { answer = λ i. record { number = sym y.0 i; slot = sym y.1 i }; slots = sym y.2; images = sym y.3 }

pub saved_yes : (l after : List Slot) (m now : List ℕ) (s : State) (f k : ℕ) (t : Slot) → save l (length m) s f ≡ change k t → after ≡ set l k t → now ≡ with_image k (Image.image s) m → SaveDone l m s f (record { number = 0; slot = k }) after now
unfolding number slot_of slots_after images_after
saved_yes l after m now s f k t e w v =
    let z : (d : Decision) → d ≡ change k t → (number d ≡ 0) × (slot_of d ≡ k) × (slots_after d l ≡ set l k t) × (images_after d (Image.image s) m ≡ with_image k (Image.image s) m) = λ d w. rw w (refl, refl, refl, refl) in
    let y = z _ e in
    record { answer = λ i. record { number = sym y.0 i; slot = sym y.1 i }; slots = w ∙ sym y.2; images = v ∙ sym y.3 }
