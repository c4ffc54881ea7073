-- How a recording begins, from a table file's bytes, and what a call of it leaves.
use Rattle.std.specs.Prelude.{ℕ, zero, suc, ◌-◌, ◌≡◌, refl, List, [], true, ℤ, length, take, drop}
use Rattle.std.proofs.Common.{arith, length-drop, take_all}
use Rattle.state.specs.declared.State.{State}
use Rattle.state.specs.State.{all_zero, cold_start}
use Rattle.calls.specs.Run.{Event, step}
use Rattle.hex_lines.specs.Held.{kept}
use Rattle.table_file.specs.File as File
use Rattle.heard.specs.declared.Recorder.{Recorder}
use Rattle.heard.specs.declared.Said.{Said}
use Rattle.heard.specs.declared.Started.{Started}
use Rattle.heard.specs.Recording.{text, opening, tables_text}

-- after a start that is refused
unfoldable pub idle : Recorder
idle = record { first = true; state = all_zero; line = kept [] }

module _ (words : List ℤ) (bytes : List ℕ) where
  -- at the start: cold, and no line is open
  unfoldable pub begin : Recorder
  begin = record { first = true; state = (cold_start words bytes).state; line = kept [] }

  -- a call: how long its text is, and the state that it returns
  unfoldable pub called : State → Event → Said
  called s e = record { n = length (text words bytes s e); state = step words bytes s e }

-- ---- the table file's bytes
-- the words are those of a file of the right length
pub record Tables (words : List ℤ) (file : List ℕ) : Type 0 where
  pub long : length file ≡ 15834
  pub are : words ≡ File.words file

-- its bytes, as they are lent
pub part_bytes : (file : List ℕ) → length file ≡ 15834 → take (length file - 11926) (drop 11926 file) ≡ File.bytes file
part_bytes file e = take_all (length file - 11926) (drop 11926 file) (omega (arith, length-drop 11926 file))

-- the start: nothing is written, or the file's refusal; and where the recording then stands
unfoldable pub start_text_by : ℕ → List ℕ → List ℕ
start_text_by zero file = []
start_text_by (suc n) file = tables_text (suc n) file

unfoldable pub start_text : List ℕ → List ℕ
start_text file = start_text_by (File.check_file file) file

unfoldable pub started_by : ℕ → List ℕ → Started
started_by zero file = record { recorder = begin (File.words file) (File.bytes file); number = 0; n = 0 }
started_by (suc n) file = record { recorder = idle; number = suc n; n = length (tables_text (suc n) file) }

unfoldable pub started : List ℕ → Started
started file = started_by (File.check_file file) file

-- which of the two it is, by the number
pub started_refused : (file : List ℕ) (k : ℕ) → k ≡ File.check_file file → (k ≡ 0 → ⊥) → (started file ≡ record { recorder = idle; number = k; n = length (tables_text k file) }) × (start_text file ≡ tables_text k file)
unfolding started start_text started_by start_text_by
started_refused file zero e h = absurd (h refl)
started_refused file (suc k) e h = rw (← e) (refl, refl)

pub started_ready : (file : List ℕ) → File.check_file file ≡ 0 → (started file ≡ record { recorder = begin (File.words file) (File.bytes file); number = 0; n = 0 }) × (start_text file ≡ [])
unfolding started start_text started_by start_text_by
started_ready file e = rw e (refl, refl)

-- ---- an example
-- a recording of no line opens as it begins: cold
begins_cold : (words : List ℤ) (bytes : List ℕ) → (opening words bytes []).state ≡ (begin words bytes).state
unfolding opening begin
begins_cold words bytes = refl
