-- The line of a table file that is refused: with 4 its set is looked through again, and with another number no rule is named.
use Prim.Native.Nat.{ℕ, ◌-◌, ◌<◌}
use mathlib.Core.Path.{◌≡◌, refl, sym, ◌∙◌}
use mathlib.Core.List.{List}
use native.Mathlib.Omega.{arith}
use lib.IntN.{ℤ}
use lib.ListN.{length, take, drop}
use borrow.Author.Tests.{eq-eqb, ne_eqb}
use Rattle.tables.specs.declared.Fault.{Fault}
use Rattle.tables.specs.Places.{WORDS, BYTES}
use Rattle.tables.specs.Tables.{first_fault, check}
use Rattle.state.specs.State.{fault}
use Rattle.state.specs.Faults.{four_long, rule_of_six}
use Rattle.hex_lines.specs.Text.{tables_refused_text}
use Rattle.table_file.specs.File as File
use Rattle.heard.specs.Recording.{tables_text}
use Rattle.heard.specs.Start.{Tables, part_bytes}

module _ (words : List ℤ) (file : List ℕ) (n : ℕ) (is : n ≡ File.check_file file) where
  module _ (four : n ≡ 4) (t : Tables words file) where
    set_four : check (File.words file) (File.bytes file) ≡ 4
    set_four = sym (File.long_check file t.long) ∙ sym is ∙ four

    -- the bytes, as they are lent
    abbrev part : List ℕ
    part = take (length file - 11926) (drop 11926 file)

    pub lengths : (length words ≡ WORDS) × (length part ≡ BYTES)
    lengths = rw (t.are, part_bytes file t.long) (four_long (File.words file) (File.bytes file) set_four)

    pub named : (f : Fault) → f ≡ first_fault words part → (f.rule < 16) × (tables_refused_text n f ≡ tables_text n file)
    unfolding tables_text fault
    named f e =
        let r = rule_of_six (File.words file) (File.bytes file) set_four in
        rw (e, t.are, part_bytes file t.long, eq-eqb n 4 four) (omega arith, refl)

  pub unnamed : (n ≡ 4 → ⊥) → tables_refused_text n (record { rule = 0; place = 0 }) ≡ tables_text n file
  unfolding tables_text fault
  unnamed h = rw (ne_eqb n 4 h)
