-- The ways that the call goes: what the definitions give on each.
use Prim.Native.Nat.{ℕ, ◌-◌, ◌<◌}
use mathlib.Core.Path.{◌≡◌, refl, sym, ap, ◌∙◌}
use mathlib.Core.List.{List}
use native.Mathlib.Omega.{arith}
use borrow.Author.Tests.{eq-eqb, ne_eqb}
use lib.IntN.{ℤ}
use lib.ListN.{length, set, take, drop, length-drop, drop_of_length-le}
use lib.Seq.{sets, sets-eq, take_all}
use Rattle.tables.specs.declared.Fault.{Fault}
use Rattle.tables.specs.Places.{WORDS, BYTES}
use Rattle.tables.specs.Tables.{first_fault, check}
use Rattle.state.specs.State.{fault}
use Rattle.state.specs.Faults.{four_long}
use Rattle.table_file.specs.File as File
use Rattle.image.specs.Bytes.{bytes_of}
use Rattle.desk_tables.specs.Check.{TOLD, TABLES, bytes_of_fault, check_number, check_told}
use Rattle.desk_tables.specs.Told.{place_below, four_set, file_number}

-- ---- a fault's five bytes fill their room
pub fault_put : (f : Fault) (old new : List ℕ) → length old ≡ TOLD → new ≡ sets (set old 0 f.rule) 1 (bytes_of 4 f.place) → new ≡ bytes_of_fault f
unfolding bytes_of_fault bytes_of
fault_put f old new l e =
    let b = bytes_of_fault f in
    e ∙ sets-eq b old 0 (omega arith) ∙ rw (drop_of_length-le old {i = 5} (omega arith))

-- ---- the table check
module _ (tables old : List ℕ) where
  abbrev Checks : ℕ → List ℕ → Type 0
  Checks n new = (n ≡ check_number tables (length old)) × (new ≡ check_told tables old)

  pub check_one : (length old ≡ TOLD → ⊥) → (length tables ≡ TABLES → ⊥) → Checks 1 old
  unfolding check_number check_told
  check_one t h = rw (ne_eqb (length tables) TABLES h, ne_eqb (length old) TOLD t) (refl, refl)

  pub check_two : (length old ≡ TOLD → ⊥) → length tables ≡ TABLES → Checks 2 old
  unfolding check_number check_told
  check_two t h = rw (eq-eqb (length tables) TABLES h, ne_eqb (length old) TOLD t) (refl, refl)

  pub check_told_lem : length old ≡ TOLD → (n : ℕ) (f : Fault) (new : List ℕ) → n ≡ File.check_file tables → f ≡ fault n (File.words tables) (File.bytes tables) → new ≡ bytes_of_fault f → Checks n new
  unfolding check_told
  check_told_lem t n f new p q e =
      let m = p ∙ file_number tables old t in
      (m, rw (eq-eqb (length old) TOLD t) (e ∙ ap bytes_of_fault (q ∙ ap (λ (k : ℕ). fault k (File.words tables) (File.bytes tables)) m)))

-- ---- a table file that was given this number
module _ (n : ℕ) (tables : List ℕ) (is : n ≡ File.check_file tables) where
  pub four_file : n ≡ 4 → length tables ≡ TABLES
  four_file four = File.long_file tables (λ z. omega arith)

  pub file_words : (old : List ℤ) → n ≡ 4 → File.words_or tables old ≡ File.words tables
  file_words old four = File.long_words tables old (four_file four)

  set_four : n ≡ 4 → check (File.words tables) (File.bytes tables) ≡ 4
  set_four four = four_set tables (sym is ∙ four)

  -- a place fits four bytes
  pub place_small : (f : Fault) → f ≡ fault n (File.words tables) (File.bytes tables) → f.place < 4294967296
  place_small f e = let h = place_below (File.words tables) (File.bytes tables) n set_four in rw e (omega arith)

  -- the bytes, as they are lent
  abbrev part : List ℕ
  part = take (length tables - 11926) (drop 11926 tables)

  module _ (words : List ℤ) (are : n ≡ 4 → words ≡ File.words tables) (four : n ≡ 4) where
    part_is : part ≡ File.bytes tables
    part_is = let l = four_file four in let m = length-drop 11926 tables in take_all (length tables - 11926) (drop 11926 tables) (omega arith)

    pub set_lengths : (length words ≡ WORDS) × (length part ≡ BYTES)
    set_lengths = rw (are four, part_is) (four_long (File.words tables) (File.bytes tables) (set_four four))

    pub found : (f : Fault) → f ≡ first_fault words part → f ≡ fault n (File.words tables) (File.bytes tables)
    unfolding fault
    found f e = rw (eq-eqb n 4 four) (e ∙ rw (are four, part_is))

pub none_found : (n : ℕ) (tables : List ℕ) → (n ≡ 4 → ⊥) → record { rule = 0; place = 0 } ≡ fault n (File.words tables) (File.bytes tables)
unfolding fault
none_found n tables h = rw (ne_eqb n 4 h)
