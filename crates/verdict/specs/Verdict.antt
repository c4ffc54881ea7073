-- A line of another decoder's beside ours: the forms of a line, what differs first between two, and what is told of all lines.
use Rattle.std.specs.Prelude.{ℕ, ◌+◌, ◌-◌, ◌*◌, min, List, [], ◌∷◌, ◌++◌, Bool, cond, not, ◌&&◌, ◌||◌, eqb, ltb, leb, length, get_or, take, drop, bytes_eq}
use Rattle.sequence.specs.All.{all}
use Rattle.sequence.specs.First.{first}
use Rattle.stream.specs.Decimal.{decimal}
use Rattle.hex_lines.specs.Text.{value, is_digit}

-- ---- the forms of a line
unfoldable pub is_decimal : ℕ → Bool
is_decimal c = leb 48 c && leb c 57

-- the same bytes
abbrev pub same : List ℕ → List ℕ → Bool
same = bytes_eq

-- `refused `
abbrev pub refused_word : List ℕ
refused_word = 114 ∷ 101 ∷ 102 ∷ 117 ∷ 115 ∷ 101 ∷ 100 ∷ 32 ∷ []

-- a digit, a blank and 1,280 hexadecimal digits of either case
unfoldable pub is_frame : List ℕ → Bool
is_frame t = eqb (length t) 1282 && (is_decimal (get_or t 0 0) && (eqb (get_or t 1 0) 32 && all is_digit (drop 2 t)))

-- `refused ` and a decimal number of any length
unfoldable pub is_refusal : List ℕ → Bool
is_refusal t = ltb 8 (length t) && (same (take 8 t) refused_word && all is_decimal (drop 8 t))

unfoldable pub known : List ℕ → Bool
known t = is_frame t || is_refusal t

-- ---- what is told
-- `line N`; some words behind it, and a newline
unfoldable pub head : ℕ → List ℕ
head n = 108 ∷ 105 ∷ 110 ∷ 101 ∷ 32 ∷ decimal n

unfoldable pub says : ℕ → List ℕ → List ℕ
says n words = head n ++ (words ++ (10 ∷ []))

-- ` refusal`, ` mark`, ` missing`, ` extra`, ` refused 16`
abbrev pub refusal : List ℕ
refusal = 32 ∷ 114 ∷ 101 ∷ 102 ∷ 117 ∷ 115 ∷ 97 ∷ 108 ∷ []

abbrev pub mark : List ℕ
mark = 32 ∷ 109 ∷ 97 ∷ 114 ∷ 107 ∷ []

abbrev pub missing : List ℕ
missing = 32 ∷ 109 ∷ 105 ∷ 115 ∷ 115 ∷ 105 ∷ 110 ∷ 103 ∷ []

abbrev pub extra : List ℕ
extra = 32 ∷ 101 ∷ 120 ∷ 116 ∷ 114 ∷ 97 ∷ []

abbrev pub sixteen : List ℕ
sixteen = 32 ∷ 114 ∷ 101 ∷ 102 ∷ 117 ∷ 115 ∷ 101 ∷ 100 ∷ 32 ∷ 49 ∷ 54 ∷ []

-- `agree` and a newline
abbrev pub agree : List ℕ
agree = 97 ∷ 103 ∷ 114 ∷ 101 ∷ 101 ∷ 10 ∷ []

-- the four digits of a sample, and the number of 16 bits that they spell
unfoldable pub digits_at : List ℕ → ℕ → List ℕ
digits_at t p = take 4 (drop (2 + 4 * p) t)

unfoldable pub spelled : List ℕ → ℕ → ℕ
spelled t p = 4096 * value (get_or t (2 + 4 * p) 0) + 256 * value (get_or t (2 + 4 * p + 1) 0) + 16 * value (get_or t (2 + 4 * p + 2) 0) + value (get_or t (2 + 4 * p + 3) 0)

-- such a number as a signed one in decimal, with a blank before it
unfoldable pub spaced : ℕ → List ℕ
spaced v = cond (ltb v 32768) (32 ∷ decimal v) (32 ∷ 45 ∷ decimal (65536 - v))

-- whether the digits of place p differ as bytes; and the lowest place at which they do, the last one, 319, where none before it is such
unfoldable pub differs : List ℕ → List ℕ → ℕ → Bool
differs o t p = not (same (digits_at o p) (digits_at t p))

unfoldable pub place : List ℕ → List ℕ → ℕ
place o t = first (differs o t) 319

-- ` sample P`, and ` sample P OURS THEIRS`
unfoldable pub sample_of : ℕ → List ℕ
sample_of p = 32 ∷ 115 ∷ 97 ∷ 109 ∷ 112 ∷ 108 ∷ 101 ∷ 32 ∷ decimal p

unfoldable pub sample : ℕ → ℕ → ℕ → List ℕ
sample p ours theirs = sample_of p ++ (spaced ours ++ spaced theirs)

unfoldable pub sample_at : List ℕ → List ℕ → ℕ → List ℕ
sample_at o t p = sample p (spelled o p) (spelled t p)

-- what differs first between a line of ours and another one of theirs: where not both are frames, one of them is a refusal
unfoldable pub what : List ℕ → List ℕ → List ℕ
what o t =
    cond (known t) (cond (is_frame o && is_frame t) (cond (eqb (get_or o 0 0) (get_or t 0 0)) (sample_at o t (place o t)) mark) refusal)
    sixteen

unfoldable pub difference : ℕ → List ℕ → List ℕ → List ℕ
difference n o t = says n (what o t)

-- a line that we do not have
unfoldable pub added : ℕ → List ℕ → List ℕ
added n t = says n (cond (known t) extra sixteen)

-- the next line's number. It stays at 2 ^ 64 - 1, where no file comes to
unfoldable pub next : ℕ → ℕ
next n = min (n + 1) 18446744073709551615

-- ---- our lines beside theirs, from line n on
unfoldable pub judge : ℕ → List (List ℕ) → List (List ℕ) → List ℕ
judge n [] [] = agree
judge n [] (t ∷ ts) = added n t
judge n (o ∷ os) [] = says n missing
judge n (o ∷ os) (t ∷ ts) = cond (same o t) (judge (next n) os ts) (difference n o t)
