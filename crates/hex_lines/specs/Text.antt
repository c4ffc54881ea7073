-- A frame as a line of hexadecimal, and the texts that the program prints: an accepted frame's, a refusal's, a refused table file's.
use Rattle.std.specs.Prelude.{ℕ, ◌+◌, ◌-◌, ◌*◌, ◌/◌, ◌%◌, ◌≡◌, refl, List, [], ◌∷◌, ◌++◌, Bool, true, false, ◌&&◌, cond, eqb, ltb, leb, ℤ, pos, negsuc, length, get_or}
use Rattle.sequence.specs.All.{all}
use Rattle.sequence.specs.Table.{table}
use Rattle.stream.specs.Decimal.{decimal_in, decimal, figure}
use Rattle.tables.specs.declared.Fault.{Fault}
use Rattle.tables.specs.Tables.{unsigned}

-- ---- in
-- what a digit of either case is worth, 0 to 15; any other byte gives 16
unfoldable pub value : ℕ → ℕ
value c =
    cond (leb 48 c && leb c 57) (c - 48)
    (cond (leb 97 c && leb c 102) (c - 87)
    (cond (leb 65 c && leb c 70) (c - 55) 16))

-- `0` and `9`, `a` and `f`, `A` and `F`; and the bytes beside them
digits_are : (value 48 ≡ 0) × (value 57 ≡ 9) × (value 97 ≡ 10) × (value 102 ≡ 15) × (value 65 ≡ 10) × (value 70 ≡ 15)
unfolding value
digits_are = (refl, refl, refl, refl, refl, refl)

others_are_none : (value 47 ≡ 16) × (value 58 ≡ 16) × (value 64 ≡ 16) × (value 71 ≡ 16) × (value 96 ≡ 16) × (value 103 ≡ 16)
unfolding value
others_are_none = (refl, refl, refl, refl, refl, refl)

unfoldable pub is_digit : ℕ → Bool
is_digit c = ltb (value c) 16

-- a line is a frame where it is 40 hex digits, and nothing else
unfoldable pub is_frame : List ℕ → Bool
is_frame line = eqb (length line) 40 && all is_digit line

-- a line of that one byte, and nothing else
unfoldable pub is_only : ℕ → List ℕ → Bool
is_only b line = eqb (length line) 1 && eqb (get_or line 0 0) b

-- `+`; and what is none: an empty line, `-`, `++`, `+` with a blank or a carriage return behind it
pluses : (is_only 43 (43 ∷ []) ≡ true) × (is_only 43 [] ≡ false) × (is_only 43 (45 ∷ []) ≡ false) × (is_only 43 (43 ∷ 43 ∷ []) ≡ false) × (is_only 43 (43 ∷ 32 ∷ []) ≡ false) × (is_only 43 (43 ∷ 13 ∷ []) ≡ false)
unfolding is_only
pluses = (refl, refl, refl, refl, refl, refl)

-- the 20 bytes of a frame's line: two digits a byte, the high one first
unfoldable pub byte_at : List ℕ → ℕ → ℕ
byte_at line k = 16 * value (get_or line (2 * k) 0) + value (get_or line (2 * k + 1) 0)

unfoldable pub payload : List ℕ → List ℕ
payload line = table (byte_at line) 20

-- `4f` and `4F` are 79
either_case : (byte_at (52 ∷ 102 ∷ []) 0 ≡ 79) × (byte_at (52 ∷ 70 ∷ []) 0 ≡ 79)
unfolding byte_at value
either_case = (refl, refl)

-- ---- out
-- the digit of a number below 16, lower-case
unfoldable pub digit : ℕ → ℕ
digit n = cond (ltb n 10) (48 + n) (87 + n)

-- a number of 16 bits in four digits, the high one first
unfoldable pub four_digits : ℕ → List ℕ
four_digits n = digit (n / 4096 % 16) ∷ digit (n / 256 % 16) ∷ digit (n / 16 % 16) ∷ digit (n % 16) ∷ []

-- samples in four digits each, two's complement
unfoldable pub sample_text : List ℤ → List ℕ
sample_text [] = []
sample_text (x ∷ xs) = four_digits (unsigned x) ++ sample_text xs

-- 1, -1 and -32768 are `0001`, `ffff` and `8000`
three_samples : sample_text (pos 1 ∷ negsuc 0 ∷ negsuc 32767 ∷ []) ≡ 48 ∷ 48 ∷ 48 ∷ 49 ∷ 102 ∷ 102 ∷ 102 ∷ 102 ∷ 56 ∷ 48 ∷ 48 ∷ 48 ∷ []
unfolding sample_text four_digits digit
three_samples = refl

-- the line of an accepted frame: the mark, a space, the samples
unfoldable pub frame_text : ℕ → List ℤ → List ℕ
frame_text mark samples = digit mark ∷ 32 ∷ (sample_text samples ++ (10 ∷ []))

-- `refused N`
unfoldable pub refused_text : ℕ → List ℕ
refused_text n = 114 ∷ 101 ∷ 102 ∷ 117 ∷ 115 ∷ 101 ∷ 100 ∷ 32 ∷ digit n ∷ 10 ∷ []

-- `tables refused N`, and where a rule is named the rule and its place behind it, `tables refused N R P`
unfoldable pub tables_refused_text : ℕ → Fault → List ℕ
tables_refused_text n f =
    116 ∷ 97 ∷ 98 ∷ 108 ∷ 101 ∷ 115 ∷ 32 ∷ 114 ∷ 101 ∷ 102 ∷ 117 ∷ 115 ∷ 101 ∷ 100 ∷ 32 ∷ digit n ∷ cond (eqb f.rule 0) (10 ∷ []) (32 ∷ digit f.rule ∷ figure (32 ∷ []) f.place)

-- `tables refused 4 6 3904`
last_float : tables_refused_text 4 (record { rule = 6; place = 3904 }) ≡ 116 ∷ 97 ∷ 98 ∷ 108 ∷ 101 ∷ 115 ∷ 32 ∷ 114 ∷ 101 ∷ 102 ∷ 117 ∷ 115 ∷ 101 ∷ 100 ∷ 32 ∷ 52 ∷ 32 ∷ 54 ∷ 32 ∷ 51 ∷ 57 ∷ 48 ∷ 52 ∷ 10 ∷ []
unfolding tables_refused_text digit figure decimal decimal_in
last_float = refl
