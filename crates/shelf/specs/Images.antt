-- The images of the sixteen slots: one is written, and the others are as they were.
use Rattle.std.specs.Prelude.{ℕ, ◌+◌, ◌-◌, ◌*◌, ◌<◌, ◌≤◌, ◌≡◌, Bool}
use Rattle.std.proofs.Math.Path.{refl, sym, ap}
use Rattle.std.proofs.Common.{◌∙◌, take-append-drop, length-take, drop_at}
use mathlib.Core.List.{List, ◌++◌, append_assoc}
use Rattle.std.proofs.Math.Bool.{true, false}
use Rattle.std.proofs.Math.Dec.{ltb}
use borrow.Author.Tests.{ltb-true, ltb-false}
use native.Mathlib.Omega.{arith}
use Rattle.std.proofs.Math.ListN.{length, take, drop, length-drop, length-append}
use Rattle.std.proofs.Math.Seq.{take_at, drop-append-add, drop-drop}
use Rattle.std.proofs.lemmas.List.{take-append-le, drop-append-le}
use Rattle.state.specs.declared.State.{State}
use Rattle.image.specs.Image as Image
use Rattle.image.specs.Image.{SIZE, Held}
use Rattle.image.specs.RoundTrips.{length_image, state_back}
use Rattle.slot_users.specs.Users.{SLOTS}
use Rattle.shelf.specs.Shelf.{ROOM, state_at, with_image}

module _ (m : List ℕ) (long : length m ≡ ROOM) where
  front_long : (k : ℕ) → k < SLOTS → length (take (SIZE * k) m) ≡ SIZE * k
  front_long k h = length-take (SIZE * k) m ∙ omega (arith, long)

  -- the bytes are as many as they were
  pub length_with : (k : ℕ) (i : List ℕ) → k < SLOTS → length i ≡ SIZE → length (with_image k i m) ≡ ROOM
  unfolding with_image
  length_with k i h e =
      length-append (take (SIZE * k) m) (i ++ drop (SIZE * k + SIZE) m) ∙ simp (length-append i (drop (SIZE * k + SIZE) m), front_long k h, length-drop (SIZE * k + SIZE) m, e, long) (omega arith)

  -- the image that was written
  pub with_same : (k : ℕ) (i : List ℕ) → k < SLOTS → length i ≡ SIZE → take SIZE (drop (SIZE * k) (with_image k i m)) ≡ i
  unfolding with_image
  with_same k i h e = ap (take SIZE) (drop_at (take (SIZE * k) m) (i ++ drop (SIZE * k + SIZE) m) (SIZE * k) (front_long k h)) ∙ take_at i (drop (SIZE * k + SIZE) m) SIZE e

  -- those below it
  within : (a : ℕ) (p x : List ℕ) → a + SIZE ≤ length p → take SIZE (drop a (p ++ x)) ≡ take SIZE (drop a p)
  within a p x h =
      let n : a ≤ length p = omega arith in
      let d : length (drop a p) ≡ length p - a = length-drop a p in
      ap (take SIZE) (drop-append-le a p x n) ∙ take-append-le SIZE (drop a p) x (omega arith)

  below : (k j : ℕ) (i : List ℕ) → j < k → k < SLOTS → take SIZE (drop (SIZE * j) (with_image k i m)) ≡ take SIZE (drop (SIZE * j) m)
  unfolding with_image
  below k j i l h =
      let n = front_long k h in
      let p : SIZE * j + SIZE ≤ length (take (SIZE * k) m) = omega arith in
      within (SIZE * j) (take (SIZE * k) m) (i ++ drop (SIZE * k + SIZE) m) p
      ∙ sym (within (SIZE * j) (take (SIZE * k) m) (drop (SIZE * k) m) p) ∙ ap (λ (t : List ℕ). take SIZE (drop (SIZE * j) t)) (take-append-drop (SIZE * k) m)

  -- those above it
  above : (k j : ℕ) (i : List ℕ) → k < j → k < SLOTS → length i ≡ SIZE → drop (SIZE * j) (with_image k i m) ≡ drop (SIZE * j) m
  unfolding with_image
  above k j i l h e =
      let p = take (SIZE * k) m in
      let a = SIZE * k + SIZE in
      let n : SIZE * j ≡ length (p ++ i) + (SIZE * j - a) = simp (length-append p i, front_long k h, e) (omega arith) in
      let w : a + (SIZE * j - a) ≡ SIZE * j = omega arith in
      ap (drop (SIZE * j)) (sym (append_assoc p i (drop a m))) ∙ ap (λ (t : ℕ). drop t ((p ++ i) ++ drop a m)) n ∙ drop-append-add (p ++ i) (drop a m) (SIZE * j - a)
      ∙ drop-drop (SIZE * j - a) a m ∙ ap (λ (t : ℕ). drop t m) w

  -- the state of the slot that was written, and of another
  pub state_same : (k : ℕ) (s : State) → k < SLOTS → Held s → state_at k (with_image k (Image.image s) m) ≡ s
  unfolding state_at
  state_same k s h f = ap Image.state (with_same k (Image.image s) h (length_image s f)) ∙ state_back s f

  pub state_other : (k j : ℕ) (s : State) → k < SLOTS → Held s → (k ≡ j → ⊥) → state_at j (with_image k (Image.image s) m) ≡ state_at j m
  unfolding state_at
  state_other k j s h f d = by (ltb j k) refl
    where
      by : (b : Bool) → ltb j k ≡ b → state_at j (with_image k (Image.image s) m) ≡ state_at j m
      by true e = ap Image.state (below k j (Image.image s) (ltb-true j k e) h)
      by false e = let l = ltb-false j k e in ap (λ (t : List ℕ). Image.state (take SIZE t)) (above k j (Image.image s) (omega arith) h (length_image s f))
