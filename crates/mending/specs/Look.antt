-- A line looked through byte by byte, and its two texts by what was found.
use Rattle.std.specs.Prelude.{ℕ, ◌+◌, List, [], ◌∷◌, ◌++◌, Bool, true, cond, length}
use Rattle.hex_lines.specs.Held as Held
use Rattle.mending.specs.declared.Place.{Place}
use Rattle.mending.specs.declared.Found.{Found}
use Rattle.mending.specs.declared.Ended.{Ended}
use Rattle.mending.specs.Repair.{is_return, is_blank, is_capital, cleaned, any, return, blank, letter, replaced, said, mended, step, line_entry}

-- what a line's bytes leave
unfoldable pub found : List ℕ → Found
found line = record { line = Held.kept (cleaned line); returns = any is_return line; blanks = any is_blank line; letters = any is_capital line }

-- a byte more
unfoldable pub looked : Found → ℕ → Found
looked f b =
    cond (is_return b) (record { line = f.line; returns = true; blanks = f.blanks; letters = f.letters })
    (cond (is_blank b) (record { line = f.line; returns = f.returns; blanks = true; letters = f.letters })
    (cond (is_capital b) (record { line = Held.push f.line (b + 32); returns = f.returns; blanks = f.blanks; letters = true })
    (record { line = Held.push f.line b; returns = f.returns; blanks = f.blanks; letters = f.letters })))

-- a line that is kept, or `-`; with a newline where the line had one
unfoldable pub chosen : Bool → List ℕ → List ℕ
chosen kept line = cond kept line (45 ∷ [])

unfoldable pub chosen_line : Bool → List ℕ → Bool → List ℕ
chosen_line kept line ended = chosen kept line ++ said ended (10 ∷ [])

-- the words
unfoldable pub changes : Bool → Bool → Bool → List ℕ
changes returns blanks letters = said returns return ++ (said blanks blank ++ said letters letter)

unfoldable pub told : Bool → Bool → Found → List ℕ
told kept dash f = cond kept (changes f.returns f.blanks f.letters) (cond dash [] replaced)

-- ---- a line's end
unfoldable pub line_text : Place → List ℕ → Bool → List ℕ
line_text p line newline = mended p.opens line ++ said newline (10 ∷ [])

unfoldable pub ended : Place → List ℕ → Bool → Ended
ended p line newline = record { place = step p line; repaired = length (line_text p line newline); listed = length (line_entry p line) }
