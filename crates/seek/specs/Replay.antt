-- What a seek finds is what playing from the start comes to.
use Prim.Native.Nat.{ℕ, zero, suc, ◌<◌, ◌≤◌}
use Rattle.std.specs.Prelude.{◌≡◌, Bool, ◌&&◌, cond, eqb, leb, ℤ, length, take}
use Rattle.std.proofs.Math.Path.{refl}
use Rattle.std.proofs.Common.{sym, ap, ◌∙◌, arith}
use Rattle.std.proofs.Math.Bool.{true, false}
use mathlib.Core.List.{List, [], ◌∷◌}
use Rattle.std.proofs.Math.Dec.{ltb}
use borrow.Author.Tests.{ltb-true, ltb-false, lt-ltb, leb-true}
use Rattle.tables.specs.Tables.{check}
use Rattle.spectral.specs.Kept.{Words16}
use Rattle.stream.specs.Lines.{lines}
use Rattle.stream.specs.Told.{after}
use Rattle.state.specs.declared.State.{State}
use Rattle.state.specs.State.{all_zero, obeys, started, started_by, reset, cold_start}
use Rattle.calls.specs.Run.{run}
use Rattle.calls.specs.StateRule.{Obeying, initial_obeying}
use Rattle.calls.proofs.StateRule.{run_obeying}
use Rattle.heard.specs.Recording.{event, is_start, Opening, opening, line_step}
use Rattle.slots.specs.declared.Slot.{Slot}
use Rattle.slot_users.specs.Users.{SLOTS, slot_at}
use Rattle.shelf.specs.Shelf.{ROOM, state_at, lent, judged}
use Rattle.shelf.specs.Cases.{is_lent}
use Rattle.places.specs.Frames.{frames}
use Rattle.forward.specs.Forward.{forward, before, forward_before}
use Rattle.best_save.specs.Best.{fits, best, best_means, none_means}
use Rattle.seek.specs.Seek.{Sought, not_sought, of_set, saved, saved_at, from_save, seek_lent, seek}

no : (b : Bool) → b ≡ true → b ≡ false → ⊥
no b e f = let z : ◌≡◌ {A = ℕ} 0 1 = cc in omega arith

-- a save that fits is at or below k
fits_below : (k : ℕ) (s : Slot) → fits k s ≡ true → s.frame ≤ k
unfolding fits
fits_below k s e = by (eqb s.users 0) (leb s.frame k) refl e
  where
    by : (u b : Bool) → leb s.frame k ≡ b → cond u false b ≡ true → s.frame ≤ k
    by true b p q = absurd (no true refl (sym q))
    by false b p q = leb-true s.frame k (p ∙ q)

module _ (words : List ℤ) (bytes : List ℕ) (l : List Slot) (m recording : List ℕ) (k : ℕ) where
  -- each save that is held at or below k was this recording's state before the frame of its number
  abbrev pub Played : Type 0
  Played = (i : ℕ) → i < SLOTS → fits k (slot_at l i) ≡ true → state_at i m ≡ before words bytes recording (slot_at l i).frame

  -- forward from the best of them
  found : Played → best l k < SLOTS → forward words bytes (saved words bytes l m recording k) recording (saved_at words bytes l m recording k) k ≡ before words bytes recording k
  found p h =
      let f = (best_means l k h).0 in
      ap (λ (s : State). forward words bytes s recording (slot_at l (best l k)).frame k) (p (best l k) h f)
      ∙ forward_before words bytes recording (slot_at l (best l k)).frame k (fits_below k (slot_at l (best l k)) f)

  -- **a seek that is accepted gives the state of playing from the start**
  pub seek_plays : Played → (seek words bytes l m recording k).number ≡ 0 → (seek words bytes l m recording k).state ≡ before words bytes recording k
  unfolding seek seek_lent from_save judged of_set
  seek_plays p e = by (lent (length l) (length m)) (ltb (best l k) SLOTS) (ltb k (length (frames recording))) (check words bytes) (obeys (saved words bytes l m recording k)) refl e
    where
      by : (a b c : Bool) (n : ℕ) (o : Bool) → ltb (best l k) SLOTS ≡ b
          → (cond {A = Sought} a (cond (b && c) (of_set n (cond o (record { number = 0; state = forward words bytes (saved words bytes l m recording k) recording (saved_at words bytes l m recording k) k }) (not_sought 5))) (not_sought 15)) (not_sought 12)).number ≡ 0
          → (cond {A = Sought} a (cond (b && c) (of_set n (cond o (record { number = 0; state = forward words bytes (saved words bytes l m recording k) recording (saved_at words bytes l m recording k) k }) (not_sought 5))) (not_sought 15)) (not_sought 12)).state ≡ before words bytes recording k
      by false b c n o q z = absurd (omega arith)
      by true false c n o q z = absurd (omega arith)
      by true true false n o q z = absurd (omega arith)
      by true true true (suc n) o q z = absurd (omega arith)
      by true true true zero false q z = absurd (omega arith)
      by true true true zero true q z = found p (ltb-true (best l k) SLOTS q)

  -- a seek that is refused gives the all-zero state
  pub seek_zero : ((seek words bytes l m recording k).number ≡ 0 → ⊥) → (seek words bytes l m recording k).state ≡ all_zero
  unfolding seek seek_lent from_save judged of_set
  seek_zero h = by (lent (length l) (length m)) (ltb (best l k) SLOTS) (ltb k (length (frames recording))) (check words bytes) (obeys (saved words bytes l m recording k)) h
    where
      by : (a b c : Bool) (n : ℕ) (o : Bool)
          → ((cond {A = Sought} a (cond (b && c) (of_set n (cond o (record { number = 0; state = forward words bytes (saved words bytes l m recording k) recording (saved_at words bytes l m recording k) k }) (not_sought 5))) (not_sought 15)) (not_sought 12)).number ≡ 0 → ⊥)
          → (cond {A = Sought} a (cond (b && c) (of_set n (cond o (record { number = 0; state = forward words bytes (saved words bytes l m recording k) recording (saved_at words bytes l m recording k) k }) (not_sought 5))) (not_sought 15)) (not_sought 12)).state ≡ all_zero
      by false b c n o z = refl
      by true false c n o z = refl
      by true true false n o z = refl
      by true true true (suc n) o z = refl
      by true true true zero false z = refl
      by true true true zero true z = absurd (z refl)

  -- **over an accepted set, with the lent parts of their sizes, a seek to a frame that there is, with a save held at or below it and each such save obeying the state rule, is accepted**
  pub seek_accepted : length l ≡ SLOTS → length m ≡ ROOM → check words bytes ≡ 0 → k < length (frames recording) → (i : ℕ) → i < SLOTS → fits k (slot_at l i) ≡ true
      → ((j : ℕ) → j < SLOTS → fits k (slot_at l j) ≡ true → obeys (state_at j m) ≡ true)
      → (seek words bytes l m recording k).number ≡ 0
  unfolding seek seek_lent from_save judged of_set
  seek_accepted p q c h i u f o = by (ltb (best l k) SLOTS) refl
    where
      by : (b : Bool) → ltb (best l k) SLOTS ≡ b → (seek words bytes l m recording k).number ≡ 0
      by true e = let w = ltb-true (best l k) SLOTS e in rw (p, q, is_lent, e, lt-ltb k (length (frames recording)) h, c, o (best l k) w (best_means l k w).0)
      by false e = absurd (no (fits k (slot_at l i)) f (none_means l k (ltb-false (best l k) SLOTS e) i u))

-- ---- the states of a recording obey the state rule, so that saves of them are never refused with 5
module _ (words : List ℤ) (bytes : List ℕ) (w : Words16 words) (c : check words bytes ≡ 0) where
  after_obeying : (s : State) (ls : List (List ℕ)) → Obeying s → Obeying (after (line_step words bytes) s ls)
  unfolding after line_step run
  after_obeying s [] o = o
  after_obeying s (line ∷ more) o = after_obeying (line_step words bytes s line) more (run_obeying words bytes w s (event line ∷ []) o)

  start_obeying : (n : ℕ) → leb n 2 ≡ true → Obeying (started words bytes n).state
  unfolding started started_by
  start_obeying n e = rw c (initial_obeying words bytes w c n e)

  opening_obeying : (ls : List (List ℕ)) → Obeying (opening words bytes ls).state
  unfolding opening reset cold_start
  opening_obeying [] = start_obeying 0 refl
  opening_obeying (line ∷ more) = by (is_start line)
    where
      by : (b : Bool) → Obeying (cond {A = Opening} b (record { state = (started words bytes 2).state; lines = more }) (record { state = (started words bytes 0).state; lines = line ∷ more })).state
      by true = start_obeying 2 refl
      by false = start_obeying 0 refl

  pub before_obeys : (recording : List ℕ) (k : ℕ) → obeys (before words bytes recording k) ≡ true
  unfolding before
  before_obeys recording k = (after_obeying _ (take k (frames recording)) (opening_obeying (lines recording))).rule

  -- **so of a shelf of such saves, with one at or below k, a seek gives the state of playing from the start**
  pub seek_found : (l : List Slot) (m recording : List ℕ) (k : ℕ) → length l ≡ SLOTS → length m ≡ ROOM → k < length (frames recording) → (i : ℕ) → i < SLOTS → fits k (slot_at l i) ≡ true → Played words bytes l m recording k
      → seek words bytes l m recording k ≡ record { number = 0; state = before words bytes recording k }
  seek_found l m recording k p q h i u f g =
      let a = seek_accepted words bytes l m recording k p q c h i u f (λ j v e. ap obeys (g j v e) ∙ before_obeys recording (slot_at l j).frame) in
      let s = seek_plays words bytes l m recording k g a in
      λ x. record { number = a x; state = s x }
