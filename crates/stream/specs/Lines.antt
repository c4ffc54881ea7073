-- The lines of a text: it is cut at each byte 10; what stands after the last is a line too, where it is not empty.
use Rattle.std.specs.Prelude.{ℕ, ◌≡◌, refl, List, [], ◌∷◌, ◌++◌, Bool, true, cond, not, eqb}
use Rattle.sequence.specs.All.{all, and_left, and_right}
use Rattle.std.proofs.lemmas.Bool.{not-true}

-- the text up to its first newline, and what stands between and behind the newlines: a piece for each
pub record Pieces : Type 0 where
  pub first : List ℕ
  pub more : List (List ℕ)

unfoldable pub pieces : List ℕ → Pieces
pieces [] = record { first = []; more = [] }
pieces (b ∷ bs) =
    cond (eqb b 10) (record { first = []; more = (pieces bs).first ∷ (pieces bs).more })
    (record { first = b ∷ (pieces bs).first; more = (pieces bs).more })

-- every piece but the last is a line; the last is one where it is not empty
unfoldable pub of_pieces : List ℕ → List (List ℕ) → List (List ℕ)
of_pieces [] [] = []
of_pieces (b ∷ bs) [] = (b ∷ bs) ∷ []
of_pieces piece (next ∷ more) = piece ∷ of_pieces next more

unfoldable pub lines : List ℕ → List (List ℕ)
lines input = of_pieces (pieces input).first (pieces input).more

-- nothing has no line; a newline alone is one empty line; `7`, newline, `8` are two lines, with a newline behind them or without
a_newline : (lines [] ≡ []) × (lines (10 ∷ []) ≡ [] ∷ [])
unfolding lines pieces of_pieces
a_newline = (refl, refl)

last_newline : (lines (55 ∷ 10 ∷ 56 ∷ []) ≡ (55 ∷ []) ∷ (56 ∷ []) ∷ []) × (lines (55 ∷ 10 ∷ 56 ∷ 10 ∷ []) ≡ (55 ∷ []) ∷ (56 ∷ []) ∷ [])
unfolding lines pieces of_pieces
last_newline = (refl, refl)

-- ---- what it means for any text
-- no byte of the line is a newline
abbrev pub plain : List ℕ → Bool
plain line = all (λ b. not (eqb b 10)) line

piece_first : (line rest : List ℕ) → plain line ≡ true → pieces (line ++ (10 ∷ rest)) ≡ record { first = line; more = (pieces rest).first ∷ (pieces rest).more }
unfolding pieces
piece_first [] rest e = refl
piece_first (b ∷ bs) rest e =
    rw (not-true (eqb b 10) (and_left (not (eqb b 10)) (plain bs) e), piece_first bs rest (and_right (not (eqb b 10)) (plain bs) e))

piece_last : (line : List ℕ) → plain line ≡ true → pieces line ≡ record { first = line; more = [] }
unfolding pieces
piece_last [] e = refl
piece_last (b ∷ bs) e =
    rw (not-true (eqb b 10) (and_left (not (eqb b 10)) (plain bs) e), piece_last bs (and_right (not (eqb b 10)) (plain bs) e))

-- a line with its newline is the first
pub line_first : (line rest : List ℕ) → plain line ≡ true → lines (line ++ (10 ∷ rest)) ≡ line ∷ lines rest
unfolding lines of_pieces
line_first [] rest e = rw (piece_first [] rest e)
line_first (b ∷ bs) rest e = rw (piece_first (b ∷ bs) rest e)

-- what has no newline is one line, unless it is empty
pub line_last : (b : ℕ) (bs : List ℕ) → plain (b ∷ bs) ≡ true → lines (b ∷ bs) ≡ (b ∷ bs) ∷ []
unfolding lines of_pieces
line_last b bs e = rw (piece_last (b ∷ bs) e)
