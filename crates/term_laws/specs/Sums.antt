-- Counts of numbers that lie in a range, one for each number of it, sum to how many there are.
use Rattle.std.specs.Prelude.{ℕ, zero, suc, ◌+◌, ◌≤◌, ◌<◌, ◌≡◌, refl, ◌⊎◌, Bool, ◌&&◌, ltb, leb}
use Rattle.std.proofs.Common.{sym, ◌∙◌, inl, inr, eq-or-lt_of_le}
use Rattle.std.proofs.Math.Path.{ap}
use mathlib.Core.List.{List, [], ◌∷◌, ◌++◌}
use Rattle.std.proofs.Math.Bool.{true, false, cond}
use native.Mathlib.Omega.{arith}
use Rattle.std.proofs.Math.Dec.{eqb}
use Rattle.std.proofs.Math.ListN.{length}
use borrow.Author.Tests.{eqb-true, eqb-false, ltb-true, ltb-false, lt-ltb, le-ltb, leb-true}
use Rattle.sequence.specs.All.{all, and_left, and_right}
use Rattle.sequence.specs.Table.{table, table_same}
use Rattle.tally.specs.Figures.{those, how_many}

-- the sum of a list
unfoldable pub sum : List ℕ → ℕ
sum [] = 0
sum (n ∷ ns) = n + sum ns

sum_append : (xs ys : List ℕ) → sum (xs ++ ys) ≡ sum xs + sum ys
unfolding sum
sum_append [] ys = omega arith
sum_append (x ∷ xs) ys = let h = sum_append xs ys in omega arith

sum_table : (f : ℕ → ℕ) (n : ℕ) → sum (table f (suc n)) ≡ sum (table f n) + f n
unfolding table sum
sum_table f n = let h = sum_append (table f n) (f n ∷ []) in omega arith

sum_both : (f g : ℕ → ℕ) (n : ℕ) → sum (table (λ c. f c + g c) n) ≡ sum (table f n) + sum (table g n)
unfolding table sum
sum_both f g zero = refl
sum_both f g (suc n) =
    let h = sum_both f g n in
    let a = sum_table (λ c. f c + g c) n in
    let b = sum_table f n in
    let d = sum_table g n in
    omega arith

sum_none : (n : ℕ) → sum (table (λ (c : ℕ). 0) n) ≡ 0
unfolding table sum
sum_none zero = refl
sum_none (suc n) = let h = sum_none n in let a = sum_table (λ (c : ℕ). 0) n in omega arith

-- one number m is counted once
unfoldable hit : ℕ → ℕ → ℕ → ℕ
hit m from c = cond (eqb m (from + c)) 1 0

hits : (m from n : ℕ) → from ≤ m → sum (table (hit m from) n) ≡ cond (ltb m (from + n)) 1 0
unfolding table sum hit
hits m from zero l = rw (le-ltb m (from + 0) (omega arith))
hits m from (suc n) l = sum_table (hit m from) n ∙ by (eqb m (from + n)) (ltb m (from + n)) refl refl (hits m from n l)
  where
    by_less : (from + n ≡ m) ⊎ (from + n < m) → (m ≡ from + n → ⊥) → from + suc n ≤ m
    by_less (inl e) p = absurd (p (sym e))
    by_less (inr h) p = omega arith

    by : (t u : Bool) → eqb m (from + n) ≡ t → ltb m (from + n) ≡ u → sum (table (hit m from) n) ≡ cond (ltb m (from + n)) 1 0 → sum (table (hit m from) n) + cond (eqb m (from + n)) 1 0 ≡ cond (ltb m (from + suc n)) 1 0
    by true true e f h = let p = eqb-true m (from + n) e in let q = ltb-true m (from + n) f in absurd (omega arith)
    by true false e f h = let p = eqb-true m (from + n) e in rw (h, f, e, lt-ltb m (from + suc n) (omega arith))
    by false true e f h = let q = ltb-true m (from + n) f in rw (h, f, e, lt-ltb m (from + suc n) (omega arith))
    by false false e f h =
        let p = eqb-false m (from + n) e in
        let q = ltb-false m (from + n) f in
        rw (h, f, e, le-ltb m (from + suc n) (by_less (eq-or-lt_of_le q) p))

-- each number of a list that lies in the range is counted once, so the counts sum to the list's length
module _ {A : Type 0} (k : A → ℕ) (from n : ℕ) where
  abbrev pub in_range : A → Bool
  in_range x = leb from (k x) && ltb (k x) (from + n)

  abbrev count : List A → ℕ → ℕ
  count xs c = how_many (λ (x : A). eqb (k x) (from + c)) xs

  pub counts_sum : (xs : List A) → all in_range xs ≡ true → sum (table (count xs) n) ≡ length xs
  unfolding those hit
  counts_sum [] e = sum_none n
  counts_sum (x ∷ xs) e =
      let a = and_left (in_range x) (all in_range xs) e in
      let b = counts_sum xs (and_right (in_range x) (all in_range xs) e) in
      let l = leb-true from (k x) (and_left (leb from (k x)) (ltb (k x) (from + n)) a) in
      let u = and_right (leb from (k x)) (ltb (k x) (from + n)) a in
      let h = rw u at (hits (k x) from n l) in
      let s = table_same (count (x ∷ xs)) (λ c. hit (k x) from c + count xs c) n (λ c p. one_more c (eqb (k x) (from + c))) in
      let t = ap sum s ∙ sum_both (hit (k x) from) (count xs) n in
      omega arith
    where
      one_more : (c : ℕ) (t : Bool) → length (cond t (x ∷ those (λ (y : A). eqb (k y) (from + c)) xs) (those (λ (y : A). eqb (k y) (from + c)) xs)) ≡ cond t 1 0 + count xs c
      one_more c true = omega arith
      one_more c false = omega arith
