-- The table check over lent bytes: the number that it answers, and the room for what is told after it.
use Rattle.std.specs.Prelude.{ℕ, ◌≡◌, refl, List, [], ◌∷◌, not, cond, eqb, length, get_or}
use Rattle.tables.specs.declared.Fault.{Fault}
use Rattle.table_file.specs.File as File
use Rattle.state.specs.State.{fault}
use Rattle.image.specs.Bytes.{bytes_of, number_at}

-- ---- a rule and a place: one byte and four, of the place the lowest first
abbrev pub TOLD : ℕ
TOLD = 5

unfoldable pub bytes_of_fault : Fault → List ℕ
bytes_of_fault f = f.rule ∷ bytes_of 4 f.place

unfoldable pub fault_of_bytes : List ℕ → Fault
fault_of_bytes b = record { rule = get_or b 0 0; place = number_at 4 b 1 }

-- rule 5 at word 1,483, which is 5 · 256 + 203
worked_fault : (bytes_of_fault (record { rule = 5; place = 1483 }) ≡ 5 ∷ 203 ∷ 5 ∷ 0 ∷ 0 ∷ []) × (fault_of_bytes (5 ∷ 203 ∷ 5 ∷ 0 ∷ 0 ∷ []) ≡ record { rule = 5; place = 1483 })
unfolding bytes_of_fault fault_of_bytes bytes_of number_at
worked_fault = (refl, refl)

-- how many bytes the tables are
abbrev pub TABLES : ℕ
TABLES = 15834

-- ---- the table check, with room for so many bytes of what is told: tables of another length are 1, before a room of another length, which is 2; then the set's number
unfoldable pub check_number : List ℕ → ℕ → ℕ
check_number tables room = cond (not (eqb (length tables) TABLES)) 1 (cond (not (eqb room TOLD)) 2 (File.check_file tables))

-- what is told under 4, and 0 and 0 under every other number; a room of another length stays
unfoldable pub check_told : List ℕ → List ℕ → List ℕ
check_told tables old = cond (not (eqb (length old) TOLD)) old (bytes_of_fault (fault (check_number tables (length old)) (File.words tables) (File.bytes tables)))
