-- A file of frames, a line each, from hexadecimal to a receiver's digits and back: what the two programs write follows from the bytes of their input.
use Rattle.std.specs.Prelude.{ℕ, ◌/◌, ◌%◌, List, [], ◌∷◌, ◌++◌, Bool, true, false, cond, ◌&&◌, eqb}
use Rattle.stream.specs.Lines.{lines}
use Rattle.stream.specs.Told.{texts}
use Rattle.stream.specs.Decimal.{figure}
use Rattle.hex_lines.specs.Text.{digit, is_frame, is_only, payload}
use Rattle.receiver.specs.Receiver.{line_of, frame_of, write_number, read_number}
use Rattle.convert.specs.declared.Way.{Way}
use Rattle.convert.specs.declared.Way.TheVariants.{ToReceiver, FromReceiver}

-- ---- a line
-- bytes in hexadecimal: two digits each, lower-case, the high one first
unfoldable pub hexadecimal : List ℕ → List ℕ
hexadecimal [] = []
hexadecimal (b ∷ bs) = digit (b / 16) ∷ digit (b % 16) ∷ hexadecimal bs

-- `refused N`
unfoldable pub refused : ℕ → List ℕ
refused n = figure (114 ∷ 101 ∷ 102 ∷ 117 ∷ 115 ∷ 101 ∷ 100 ∷ 32 ∷ []) n

-- a line with its newline, or where its number is not 0 the refusal in its place
unfoldable pub line_or : ℕ → List ℕ → List ℕ
line_or number line = cond (eqb number 0) (line ++ (10 ∷ [])) (refused number)

-- 9 where a line is not 40 hexadecimal digits; of a frame, 6 where a padding bit is set
unfoldable pub to_number : List ℕ → ℕ
to_number line = cond (is_frame line) (write_number (payload line)) 9

-- what a line of hexadecimal becomes, and what a line of digits does
unfoldable pub to_receiver : List ℕ → List ℕ
to_receiver line = line_or (to_number line) (line_of (payload line))

unfoldable pub from_receiver : List ℕ → List ℕ
from_receiver line = line_or (read_number line) (hexadecimal (frame_of line))

abbrev pub converted : Way → List ℕ → List ℕ
converted ToReceiver line = to_receiver line
converted FromReceiver line = from_receiver line

-- ---- a file
-- `+` and nothing else
abbrev pub is_plus : List ℕ → Bool
is_plus line = is_only 43 line

-- what a line is answered, by whether it is the first: there a `+` is kept
unfoldable pub text : Way → Bool → List ℕ → List ℕ
text way first line = cond (first && is_plus line) (43 ∷ 10 ∷ []) (converted way line)

-- the next line is not the first
abbrev pub step : Bool → List ℕ → Bool
step first line = false

-- all that a program writes
unfoldable pub program : Way → List ℕ → List ℕ
program way input = texts step (text way) true (lines input)
