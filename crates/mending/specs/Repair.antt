-- A recording mended line by line, and the list of what was changed: what salvage writes follows from the bytes of its input.
use Rattle.std.specs.Prelude.{ℕ, ◌+◌, min, List, [], ◌∷◌, ◌++◌, map, Bool, true, false, cond, ◌&&◌, ◌||◌, eqb, leb, length}
use Rattle.stream.specs.Lines.{pieces, lines}
use Rattle.stream.specs.Told.{texts, pieces_told}
use Rattle.stream.specs.Decimal.{decimal}
use Rattle.hex_lines.specs.Text.{is_frame, is_only}
use Rattle.mending.specs.declared.Place.{Place}

-- ---- a line
-- a carriage return; a blank, and a tab is none; a letter that is lowered
unfoldable pub is_return : ℕ → Bool
is_return c = eqb c 13

unfoldable pub is_blank : ℕ → Bool
is_blank c = eqb c 32

unfoldable pub is_capital : ℕ → Bool
is_capital c = leb 65 c && leb c 90

-- the line without its carriage returns and blanks
unfoldable pub bare : List ℕ → List ℕ
bare [] = []
bare (c ∷ cs) = cond (is_return c) (bare cs) (cond (is_blank c) (bare cs) (c ∷ bare cs))

unfoldable pub lower : ℕ → ℕ
lower c = cond (is_capital c) (c + 32) c

-- and with its letters lowered
unfoldable pub cleaned : List ℕ → List ℕ
cleaned line = map lower (bare line)

-- such a line is kept where it is `=`, a `+` in its place, or 40 hexadecimal digits
unfoldable pub passes : Bool → List ℕ → Bool
passes opens line = is_only 61 line || (opens && is_only 43 line || is_frame line)

-- a line over 4,096 bytes is not kept, whatever it holds
unfoldable pub is_kept : Bool → List ℕ → Bool
is_kept opens line = leb (length line) 4096 && passes opens (cleaned line)

-- what a line becomes: any other becomes `-`
unfoldable pub mended : Bool → List ℕ → List ℕ
mended opens line = cond (is_kept opens line) (cleaned line) (45 ∷ [])

-- ---- what is told of it
-- whether some byte passes a test
unfoldable pub any : (ℕ → Bool) → List ℕ → Bool
any f [] = false
any f (c ∷ cs) = f c || any f cs

-- ` return`, ` blank`, ` letter`, ` replaced`
abbrev pub return : List ℕ
return = 32 ∷ 114 ∷ 101 ∷ 116 ∷ 117 ∷ 114 ∷ 110 ∷ []

abbrev pub blank : List ℕ
blank = 32 ∷ 98 ∷ 108 ∷ 97 ∷ 110 ∷ 107 ∷ []

abbrev pub letter : List ℕ
letter = 32 ∷ 108 ∷ 101 ∷ 116 ∷ 116 ∷ 101 ∷ 114 ∷ []

abbrev pub replaced : List ℕ
replaced = 32 ∷ 114 ∷ 101 ∷ 112 ∷ 108 ∷ 97 ∷ 99 ∷ 101 ∷ 100 ∷ []

-- a word where it is said
unfoldable pub said : Bool → List ℕ → List ℕ
said b word = cond b word []

-- of a line that is kept all that happened, of any other that it was replaced, unless it was `-` before
unfoldable pub happened : Bool → List ℕ → List ℕ
happened opens line =
    cond (is_kept opens line) (said (any is_return line) return ++ (said (any is_blank line) blank ++ said (any is_capital line) letter))
    (cond (is_only 45 line) [] replaced)

-- a line of the list: the number and the words; nothing where nothing happened
unfoldable pub entry : ℕ → List ℕ → List ℕ
entry n [] = []
entry n (c ∷ cs) = decimal n ++ ((c ∷ cs) ++ (10 ∷ []))

-- ---- a file
-- lines count from 1. A `+` is in its place in the first line and behind a `=` that was written
abbrev pub first : Place
first = record { number = 1; opens = true }

-- the number stays at 2 ^ 64 - 1, where no file comes to
unfoldable pub step : Place → List ℕ → Place
step p line = record { number = min (p.number + 1) 18446744073709551615; opens = is_only 61 (mended p.opens line) }

-- a line with its newline; the last one where it has none
unfoldable pub line_text : Place → List ℕ → List ℕ
line_text p line = mended p.opens line ++ (10 ∷ [])

unfoldable pub last_text : Place → List ℕ → List ℕ
last_text p [] = []
last_text p (b ∷ bs) = mended p.opens (b ∷ bs)

unfoldable pub line_entry : Place → List ℕ → List ℕ
line_entry p line = entry p.number (happened p.opens line)

-- all that goes to standard output
unfoldable pub repaired : List ℕ → List ℕ
repaired input = pieces_told step line_text last_text first (pieces input).first (pieces input).more

-- all that goes to standard error
unfoldable pub list : List ℕ → List ℕ
list input = texts step line_entry first (lines input)
