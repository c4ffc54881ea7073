-- The term report: the lines of an input are cut into recordings, each line has an outcome, and the report is that of all outcomes.
use Rattle.std.specs.Prelude.{ℕ, zero, suc, ◌≡◌, refl, List, [], ◌∷◌, ◌++◌, Bool, true, false, cond, eqb, ℤ, length, take}
use Rattle.stream.specs.Lines.{lines}
use Rattle.state.specs.declared.State.{State}
use Rattle.calls.specs.declared.Answer.{Answer}
use Rattle.calls.specs.Celp as Celp
use Rattle.calls.specs.Run.{Event, heard, missed}
use Rattle.hex_lines.specs.Text.{is_only}
use Rattle.table_file.specs.File as File
use Rattle.heard.specs.Recording.{event, line_step, opening, tables_text}
use Rattle.tally.specs.declared.Tally.{Tally}
use Rattle.tally.specs.Figures.{Outcome, tally, LIMIT}
use Rattle.term_text.specs.Report.{report}

-- ---- recordings
-- a line that ends one: `=` and nothing else
unfoldable pub is_end : List ℕ → Bool
is_end line = is_only 61 line

-- `=`, and what is none: an empty line, `==` and ` =`
ends : (is_end (61 ∷ []) ≡ true) × (is_end [] ≡ false) × (is_end (61 ∷ 61 ∷ []) ≡ false) × (is_end (32 ∷ 61 ∷ []) ≡ false)
unfolding is_end is_only
ends = (refl, refl, refl, refl)

-- the lines before the first `=`, and those between and behind: a recording for each, which may be empty
pub record Recordings : Type 0 where
  pub first : List (List ℕ)
  pub more : List (List (List ℕ))

unfoldable pub recordings : List (List ℕ) → Recordings
recordings [] = record { first = []; more = [] }
recordings (l ∷ ls) =
    cond (is_end l) (record { first = []; more = (recordings ls).first ∷ (recordings ls).more })
    (record { first = l ∷ (recordings ls).first; more = (recordings ls).more })

-- `7`, `=`, `=`, `8` are three, the second of which is empty; a last `=` leaves an empty one behind it
three : recordings ((55 ∷ []) ∷ (61 ∷ []) ∷ (61 ∷ []) ∷ (56 ∷ []) ∷ []) ≡ record { first = (55 ∷ []) ∷ []; more = [] ∷ ((56 ∷ []) ∷ []) ∷ [] }
unfolding recordings is_end is_only
three = refl

last_end : recordings ((55 ∷ []) ∷ (61 ∷ []) ∷ []) ≡ record { first = (55 ∷ []) ∷ []; more = [] ∷ [] }
unfolding recordings is_end is_only
last_end = refl

-- ---- outcomes
-- what decode answers, of which the subframes and what was clipped in them count where it is accepted
unfoldable pub answered : Answer → Outcome
answered a = record { number = a.number; subframes = cond (eqb a.number 0) a.subframes []; clipped = cond (eqb a.number 0) a.clipped [] }

unfoldable pub outcome : List ℤ → List ℕ → State → Event → Outcome
outcome words bytes s (heard payload room) = answered (Celp.decode words bytes s payload room)
outcome words bytes s missed = record { number = 9; subframes = []; clipped = [] }

-- of lines one after the other, by the state that the one before left
unfoldable pub outcomes_from : List ℤ → List ℕ → State → List (List ℕ) → List Outcome
outcomes_from words bytes s [] = []
outcomes_from words bytes s (l ∷ ls) = outcome words bytes s (event l) ∷ outcomes_from words bytes (line_step words bytes s l) ls

-- of a recording: of the lines that its opening leaves, a first `+` being none of them
unfoldable pub outcomes_of : List ℤ → List ℕ → List (List ℕ) → List Outcome
outcomes_of words bytes recording = outcomes_from words bytes (opening words bytes recording).state (opening words bytes recording).lines

-- of recordings one after the other
unfoldable pub joined : List ℤ → List ℕ → List (List (List ℕ)) → List Outcome
joined words bytes [] = []
joined words bytes (r ∷ rs) = outcomes_of words bytes r ++ joined words bytes rs

-- of all lines
unfoldable pub outcomes : List ℤ → List ℕ → List (List ℕ) → List Outcome
outcomes words bytes ls = joined words bytes ((recordings ls).first ∷ (recordings ls).more)

-- ---- all that the program writes
-- the tally of lines
unfoldable pub tally_of : List ℤ → List ℕ → List (List ℕ) → Tally
tally_of words bytes ls = tally (length ls) (outcomes words bytes ls)

-- by the table file's refusal number; reading stops at LIMIT lines
unfoldable pub output : ℕ → List ℕ → List ℕ → List ℕ
output zero file input = report (tally_of (File.words file) (File.bytes file) (take LIMIT (lines input)))
output (suc n) file input = tables_text (suc n) file

unfoldable pub program : List ℕ → List ℕ → List ℕ
program file input = output (File.check_file file) file input
