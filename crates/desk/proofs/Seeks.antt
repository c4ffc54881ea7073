-- The ways that a seek goes.
use Prim.Native.Nat.{ℕ, ◌-◌}
use mathlib.Core.Path.{◌≡◌, refl, sym, ap, ◌∙◌}
use mathlib.Core.List.{List, []}
use borrow.Author.Tests.{eq-eqb, ne_eqb}
use lib.IntN.{ℤ}
use lib.ListN.{length, take, drop}
use Rattle.tables.specs.Tables.{check}
use Rattle.state.specs.declared.State.{State}
use Rattle.state.specs.State.{all_zero}
use Rattle.image.specs.Image.{SIZE, image}
use Rattle.slots.specs.declared.Slot.{Slot}
use Rattle.shelf.specs.Shelf.{lent}
use Rattle.shelf.specs.Cases.{judged_not}
use Rattle.desk_records.specs.Records.{RECORDS, records, no_records}
use Rattle.seek.specs.Seek.{Sought}
use Rattle.seek.specs.Seek as Seek
use Rattle.desk_calls.specs.Desk.{TABLES, words, bytes}
use Rattle.desk_calls.specs.Images.{short_check}
use Rattle.desk.proofs.Outcomes.{behind}
use Rattle.desk_calls.specs.Seeking.{sought, seek_number, seek_image}

-- of a set that is refused with 1 nothing else matters
one_set : (ws vs : List ℤ) (ys zs : List ℕ) (l : List Slot) (m recording : List ℕ) (k : ℕ) → check ws ys ≡ 1 → check vs zs ≡ 1 → Seek.seek ws ys l m recording k ≡ Seek.seek vs zs l m recording k
unfolding Seek.seek Seek.seek_lent Seek.of_set
one_set ws vs ys zs l m recording k p q = rw (p, q)

one_word : (ws : List ℤ) (ys : List ℕ) → length ws ≡ 1 → check ws ys ≡ 1
unfolding check
one_word ws ys e = rw e

pub short_sought : (tables : List ℕ) (ws : List ℤ) (l : List Slot) (m recording : List ℕ) (k : ℕ) (r : Sought) → (length tables ≡ TABLES → ⊥) → length ws ≡ 1 → r ≡ Seek.seek ws tables l m recording k → r ≡ Seek.seek (words tables) (bytes tables) l m recording k
short_sought tables ws l m recording k r h n e = e ∙ one_set ws (words tables) tables (bytes tables) l m recording k (one_word ws tables n) (short_check tables h)

-- the call on states was given what the definition gives it
pub sought_is : (tables : List ℕ) (ws : List ℤ) (ys : List ℕ) (l : List Slot) (m recording : List ℕ) (k : ℕ) (r : Sought) → ws ≡ words tables → ys ≡ take (length tables - 11926) (drop 11926 tables) → r ≡ Seek.seek ws ys l m recording k → r ≡ Seek.seek (words tables) (bytes tables) l m recording k
sought_is tables ws ys l m recording k r p q e = e ∙ (λ i. Seek.seek (p i) ((q ∙ behind tables) i) l m recording k)

module _ (tables b m recording old : List ℕ) (k : ℕ) where
  abbrev pub Seeks : ℕ → List ℕ → Type 0
  Seeks n i = (n ≡ seek_number tables b m recording k (length old)) × (i ≡ seek_image tables b m recording k old)

  pub seek_eleven : (length old ≡ SIZE → ⊥) → Seeks 11 old
  unfolding seek_number seek_image
  seek_eleven h = rw (ne_eqb (length old) SIZE h) (refl, refl)

  module _ (h : length old ≡ SIZE) where
    pub seek_told : (l : List Slot) (t : Sought) (i : List ℕ) → l ≡ records b → t ≡ Seek.seek (words tables) (bytes tables) l m recording k → i ≡ image t.state → Seeks t.number i
    unfolding seek_number seek_image
    seek_told l t i p q e =
        let g : t ≡ sought tables b m recording k = q ∙ ap (λ (x : List Slot). Seek.seek (words tables) (bytes tables) x m recording k) p in
        rw (eq-eqb (length old) SIZE h) (ap (λ (x : Sought). x.number) g, e ∙ ap (λ (x : Sought). image x.state) g)

    pub seek_twelve : (length b ≡ RECORDS → ⊥) → (s : State) (i : List ℕ) → s ≡ all_zero → i ≡ image s → Seeks 12 i
    unfolding Seek.seek lent
    seek_twelve t s i z e = seek_told [] (Seek.not_sought 12) i (sym (no_records b t)) (sym (judged_not 0 (length m) Seek.not_sought (Seek.seek_lent (words tables) (bytes tables) [] m recording k) refl)) (e ∙ ap image z)
