-- A list of two parts of the same length, of which a loop writes one after the other.
use Rattle.std.specs.Prelude.{ℕ, ◌+◌, ◌-◌, ◌≡◌, List, [], ◌++◌, ℤ, length, take, drop}
use Rattle.std.proofs.Common.{ap, ◌∙◌, append-nil, arith, length-append, length-drop, drop_of_length-le, length-take-le, take_at, drop_at}
use borrow.Rule.Slice.PartMut.{put_mid}

pub first_part : (n : ℕ) (s : List ℤ) → length s ≡ n + n → length (take n s) ≡ n
first_part n s h = length-take-le n s (omega arith)

-- x is written already, and then y
pub both_parts : (n : ℕ) (s x y : List ℤ) → length x ≡ n → put_mid n (length (x ++ drop n s) - n) (x ++ drop n s) y ≡ x ++ y
both_parts n s x y e =
    let d = drop n s in
    let f : drop n (x ++ d) ≡ d = drop_at x d n e in
    let g : drop (length (x ++ d) - n) (drop n (x ++ d)) ≡ [] = ap (drop (length (x ++ d) - n)) f ∙ drop_of_length-le d {i = length (x ++ d) - n} (omega (arith, length-append x d)) in
    rw (take_at x d n e, g, append-nil y)

pub second_part : (n : ℕ) (s x : List ℤ) → length s ≡ n + n → length x ≡ n → length (take (length (x ++ drop n s) - n) (drop n (x ++ drop n s))) ≡ n
second_part n s x h e =
    let d = drop n s in
    let l : length d ≡ n = length-drop n s ∙ omega arith in
    let f : drop n (x ++ d) ≡ d = drop_at x d n e in
    let k : length (x ++ d) - n ≡ n = omega (arith, length-append x d) in
    rw (k, f) (length-take-le n d (omega arith))
