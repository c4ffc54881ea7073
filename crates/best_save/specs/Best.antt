-- The held save with the largest frame number not above k, of equal ones the lowest slot; and that this is what is found.
use Prim.Native.Nat.{ℕ, zero, suc, ◌<◌, ◌≤◌}
use Rattle.std.specs.Prelude.{List, Bool, cond, eqb, leb, Option, Some, None, option_map}
use Rattle.std.proofs.Math.Path.{◌≡◌, refl, ap}
use Rattle.std.proofs.Common.{◌∙◌, ⊎_elim, eq-or-lt_of_le, le_of_suc-le-suc}
use Rattle.std.proofs.Math.Bool.{true, false}
use native.Mathlib.Omega.{arith}
use borrow.Author.Tests.{leb-true, leb-false, lt-ltb}
use Rattle.slots.specs.declared.Slot.{Slot}
use Rattle.slot_users.specs.Users.{SLOTS, slot_at}
use Rattle.slot_users.specs.ByValue.{some_slot}
use Rattle.best_save.specs.declared.Save.{Save}

-- whether there is a save, and it passes a test
unfoldable pub some_and : (Save → Bool) → Option Save → Bool
some_and f None = false
some_and f (Some b) = f b

module _ (k : ℕ) where
  -- whether a record is of a save that is held, at or below frame k
  unfoldable pub fits : Slot → Bool
  fits s = cond (eqb s.users 0) false (leb s.frame k)

  -- slot j beside the best before it: only one with a larger frame number takes its place
  unfoldable pub beaten : Option Save → Slot → Bool
  beaten b s = some_and (λ x. leb s.frame x.frame) b

  unfoldable pub better : Option Save → ℕ → Slot → Option Save
  better b j s = cond (fits s) (cond (beaten b s) b (Some (record { at = j; frame = s.frame }))) b

  -- the best of the first n
  unfoldable pub best_of : List Slot → ℕ → Option Save
  best_of l zero = None
  best_of l (suc n) = better (best_of l n) n (slot_at l n)

-- its slot, 16 for none
unfoldable pub place : Option Save → ℕ
place None = SLOTS
place (Some b) = b.at

unfoldable pub best : List Slot → ℕ → ℕ
best l k = place (best_of k l SLOTS)

-- what is meant: b is the best of the first n
pub record IsBest (l : List Slot) (k n : ℕ) (b : Save) : Type 0 where
  -- it is one of them, and fits
  pub below : b.at < n
  pub fit : fits k (slot_at l b.at) ≡ true
  pub frame : (slot_at l b.at).frame ≡ b.frame
  -- no other that fits has a larger frame number, and none of a lower slot an equal one
  pub largest : (i : ℕ) → i < n → fits k (slot_at l i) ≡ true → (slot_at l i).frame ≤ b.frame
  pub lowest : (i : ℕ) → i < b.at → fits k (slot_at l i) ≡ true → (slot_at l i).frame < b.frame

-- where there is none, none of them fits
unfoldable pub Means : List Slot → ℕ → ℕ → Option Save → Type 0
Means l k n None = (i : ℕ) → i < n → fits k (slot_at l i) ≡ false
Means l k n (Some b) = IsBest l k n b

-- i below n + 1 is one of the n before it, or the last
or_last : {A : Type 0} (n i : ℕ) → i < suc n → (i < n → A) → (i ≡ n → A) → A
or_last n i h f g = ⊎_elim g f (eq-or-lt_of_le (le_of_suc-le-suc h))

never : {A : Type 0} (b : Bool) → b ≡ true → b ≡ false → A
never b e f = let z : ◌≡◌ {A = ℕ} 0 1 = cc in absurd (omega arith)

module _ (l : List Slot) (k : ℕ) where
  abbrev last : ℕ → Slot
  last n = slot_at l n

  abbrev taken : ℕ → Save
  taken n = record { at = n; frame = (last n).frame }

  fits_at : (i n : ℕ) → i ≡ n → fits k (slot_at l i) ≡ fits k (last n)
  fits_at i n w = ap (λ (j : ℕ). fits k (slot_at l j)) w

  -- the last does not fit
  unfit : (n : ℕ) (b : Option Save) → Means l k n b → fits k (last n) ≡ false → Means l k (suc n) b
  unfolding Means
  unfit n None m e = λ i q. or_last n i q (m i) (λ w. fits_at i n w ∙ e)
  unfit n (Some b) m e =
      let p = m.below in
      record {
        below = omega arith;
        fit = m.fit;
        frame = m.frame;
        largest = λ i q f. or_last n i q (λ r. m.largest i r f) (λ w. never _ f (fits_at i n w ∙ e));
        lowest = m.lowest;
      }

  -- it fits, and none did
  first : (n : ℕ) → Means l k n None → fits k (last n) ≡ true → IsBest l k (suc n) (taken n)
  unfolding Means
  first n m f =
      record {
        below = omega arith;
        fit = f;
        frame = refl;
        largest = λ i q g. or_last n i q (λ r. never _ g (m i r)) (λ w. let v = ap (λ (j : ℕ). (slot_at l j).frame) w in omega arith);
        lowest = λ i q g. never _ g (m i q);
      }

  -- it fits, and is beaten
  kept : (n : ℕ) (b : Save) → IsBest l k n b → leb (last n).frame b.frame ≡ true → IsBest l k (suc n) b
  kept n b m e =
      let p = m.below in
      let g = leb-true (last n).frame b.frame e in
      record {
        below = omega arith;
        fit = m.fit;
        frame = m.frame;
        largest = λ i q f. or_last n i q (λ r. m.largest i r f) (λ w. let v = ap (λ (j : ℕ). (slot_at l j).frame) w in omega arith);
        lowest = m.lowest;
      }

  -- it fits, and is later
  later : (n : ℕ) (b : Save) → IsBest l k n b → fits k (last n) ≡ true → leb (last n).frame b.frame ≡ false → IsBest l k (suc n) (taken n)
  later n b m f e =
      let g = leb-false (last n).frame b.frame e in
      record {
        below = omega arith;
        fit = f;
        frame = refl;
        largest = λ i q h. or_last n i q (λ r. let v = m.largest i r h in omega arith) (λ w. let v = ap (λ (j : ℕ). (slot_at l j).frame) w in omega arith);
        lowest = λ i q h. let v = m.largest i q h in omega arith;
      }

  -- the better of the last and the best before it
  abbrev better_of : ℕ → Option Save → Option Save
  better_of n b = cond (fits k (last n)) (cond (some_and (λ x. leb (last n).frame x.frame) b) b (Some (taken n))) b

  next : (n : ℕ) (b : Option Save) → Means l k n b → Means l k (suc n) (better_of n b)
  unfolding some_and Means
  next n b m = by b (fits k (last n)) refl m
    where
      later_by : (b : Save) (t : Bool) → leb (last n).frame b.frame ≡ t → fits k (last n) ≡ true → IsBest l k n b → Means l k (suc n) (cond t (Some b) (Some (taken n)))
      later_by b true q p m = kept n b m q
      later_by b false q p m = later n b m p q

      by : (b : Option Save) (f : Bool) → fits k (last n) ≡ f → Means l k n b → Means l k (suc n) (cond f (cond (some_and (λ x. leb (last n).frame x.frame) b) b (Some (taken n))) b)
      by b false p m = unfit n b m p
      by None true p m = first n m p
      by (Some b) true p m = later_by b (leb (last n).frame b.frame) refl p m

  -- of whatever is found so
  means : (of : ℕ → Option Save) → of 0 ≡ None → ((n : ℕ) → of (suc n) ≡ better_of n (of n)) → (n : ℕ) → Means l k n (of n)
  unfolding Means
  means of p q zero = rw p (λ i h. absurd (omega arith))
  means of p q (suc n) = rw (q n) (next n (of n) (means of p q n))

  -- **the save that is found is held, at or below k; no held one at or below k is later, and none of a lower slot as late**
  pub best_means : best l k < SLOTS
      → (fits k (slot_at l (best l k)) ≡ true) × ((i : ℕ) → i < SLOTS → fits k (slot_at l i) ≡ true → (slot_at l i).frame ≤ (slot_at l (best l k)).frame) × ((i : ℕ) → i < best l k → fits k (slot_at l i) ≡ true → (slot_at l i).frame < (slot_at l (best l k)).frame)
  unfolding best best_of better beaten place Means
  best_means h = by (best_of k l SLOTS) (means (best_of k l) refl (λ n. refl) SLOTS) h
    where
      by : (b : Option Save) → Means l k SLOTS b → place b < SLOTS
          → (fits k (slot_at l (place b)) ≡ true) × ((i : ℕ) → i < SLOTS → fits k (slot_at l i) ≡ true → (slot_at l i).frame ≤ (slot_at l (place b)).frame) × ((i : ℕ) → i < place b → fits k (slot_at l i) ≡ true → (slot_at l i).frame < (slot_at l (place b)).frame)
      by None m h = absurd (omega arith)
      by (Some b) m h =
          let e = m.frame in
          (m.fit, (λ i p f. let v = m.largest i p f in omega arith), (λ i p f. let v = m.lowest i p f in omega arith))

  -- **where none is found, none is held at or below k**
  pub none_means : SLOTS ≤ best l k → (i : ℕ) → i < SLOTS → fits k (slot_at l i) ≡ false
  unfolding best best_of better beaten place Means
  none_means h i p = by (best_of k l SLOTS) (means (best_of k l) refl (λ n. refl) SLOTS) h
    where
      by : (b : Option Save) → Means l k SLOTS b → SLOTS ≤ place b → fits k (slot_at l i) ≡ false
      by None m h = m i p
      by (Some b) m h = absurd (let q = m.below in omega arith)

  -- the slot that is found, as the one of its number
  pub best_slot : option_map (λ (b : Save). b.at) (best_of k l SLOTS) ≡ some_slot (best l k)
  unfolding best best_of better beaten place Means
  best_slot = by (best_of k l SLOTS) (means (best_of k l) refl (λ n. refl) SLOTS)
    where
      by : (b : Option Save) → Means l k SLOTS b → option_map (λ (b : Save). b.at) b ≡ some_slot (place b)
      by None m = refl
      by (Some b) m = rw (lt-ltb b.at SLOTS m.below)
