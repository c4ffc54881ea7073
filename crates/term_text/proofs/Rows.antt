-- Rows one after the other.
use Rattle.std.proofs.Common.{ℕ, ◌+◌, ◌<◌, ◌≡◌, List, [], ◌∷◌, ◌++◌, append_assoc, append-nil, add-zero, add-one, arith, length, get_or, take, take-suc, length-take-le}
use Rattle.term_text.specs.Report.{row, rows}

rows_append : (name : List ℕ) (k : ℕ) (xs ys : List ℕ) → rows name k (xs ++ ys) ≡ rows name k xs ++ rows name (k + length xs) ys
unfolding rows
rows_append name k [] ys = rw add-zero
rows_append name k (x ∷ xs) ys =
    let e : k + 1 + length xs ≡ k + length (x ∷ xs) = omega arith in
    rw (rows_append name (k + 1) xs ys, e, append_assoc)

-- a row more
pub rows_more : (name : List ℕ) (k : ℕ) (ns : List ℕ) (i : ℕ) → i < length ns → rows name k (take (i + 1) ns) ≡ rows name k (take i ns) ++ row name (k + i) (get_or ns i 0)
unfolding rows
rows_more name k ns i h =
    rw (add-one i, take-suc ns i 0 h, rows_append name k (take i ns) (get_or ns i 0 ∷ []), length-take-le i ns (omega arith), append-nil)
