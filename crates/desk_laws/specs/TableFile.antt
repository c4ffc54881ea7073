-- The tables' words are those that the decoding program reads out of the same file, and the table check has reset's number.
use Rattle.std.specs.Prelude.{ℕ, zero, suc, ◌+◌, ◌*◌, ◌≡◌, refl, Bool, true, false, not, cond, List, eqb, ℤ, pos, length, get_or}
use Rattle.std.proofs.Common.{sym, ap, ◌∙◌, arith, eq-eqb}
use Rattle.sequence.specs.Table.{table_of}
use Rattle.tables.specs.Tables.{check}
use Rattle.state.specs.State.{started_by, started, reset}
use Rattle.table_file.specs.File as File
use Rattle.image.specs.Bytes.{number_at}
use Rattle.image.specs.Parts.{numbers_at, length_numbers, numbers_at_lem}
use Rattle.image.specs.Image.{SIZE, signed}
use Rattle.image.specs.Signs.{get_or_mapped}
use Rattle.desk_tables.specs.Check.{TOLD, check_number}
use Rattle.desk_tables.specs.Told.{file_number}
use Rattle.desk_calls.specs.Desk.{TABLES, words, bytes, barred, reset_number}
use Rattle.desk_calls.specs.Images.{words_long}

two_bytes : (b : List ℕ) (k : ℕ) → number_at 2 b (0 + 2 * k) ≡ get_or b (2 * k) 0 + 256 * get_or b (2 * k + 1) 0
unfolding number_at
two_bytes b k = let e : 0 + 2 * k ≡ 2 * k = omega arith in rw e (omega arith)

pub words_of_file : (tables : List ℕ) → words tables ≡ File.words tables
unfolding words File.words File.word_at File.signed signed
words_of_file tables =
    sym
    (table_of (File.word_at tables) (pos 0) (words tables) 5963 (words_long tables)
    (λ k h.
    let l = length_numbers 2 5963 tables 0 in
    sym (get_or_mapped (signed 2) (numbers_at 2 5963 tables 0) k 0 (pos 0) (omega arith) ∙ ap (signed 2) (numbers_at_lem 2 5963 tables 0 k h ∙ two_bytes tables k))))

started_number : (n : ℕ) (w : List ℤ) (b : List ℕ) (m : ℕ) → (started_by n w b m).number ≡ n
unfolding started_by
started_number zero w b m = refl
started_number (suc n) w b m = refl

-- with room for what is told, and an image for reset
pub check_reset : (tables old b : List ℕ) → length old ≡ TOLD → length b ≡ SIZE → check_number tables (length old) ≡ reset_number tables b
unfolding File.check_file reset_number barred reset started
check_reset tables old b t h =
    sym (file_number tables old t)
    ∙ rw (eq-eqb (length b) SIZE h, started_number (check (words tables) (bytes tables)) (words tables) (bytes tables) 2, words_of_file tables) (by (eqb (length tables) TABLES))
  where
    by : (c : Bool) → cond c (check (File.words tables) (File.bytes tables)) 1 ≡ cond (not c) 1 (check (File.words tables) (File.bytes tables))
    by true = refl
    by false = refl
