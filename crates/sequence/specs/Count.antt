-- How many of the places 0, 1, .. n - 1 pass a test; and the loop that counts them, a place a turn.
use Rattle.std.specs.Prelude.{ℕ, zero, suc, ◌+◌, ◌≤◌, ◌<◌, Bool, true, false, cond, ◌≡◌, refl, List, [], ◌∷◌, ◌++◌, ltb}
use Rattle.std.proofs.Common.{ap, ◌∙◌, add-one, arith}
use Rattle.sequence.specs.Lists.{tally}
use Rattle.sequence.specs.Table.{table}

-- 1 for a test that is passed
abbrev pub one : Bool → ℕ
one b = cond b 1 0

unfoldable pub count : (ℕ → Bool) → ℕ → ℕ
count test n = tally (λ k. one (test k)) (table (λ k. k) n)

pub one_le : (b : Bool) → one b ≤ 1
one_le true = omega arith
one_le false = omega arith

tally_last : {A : Type 0} (f : A → ℕ) (l : List A) (x : A) → tally f (l ++ (x ∷ [])) ≡ tally f l + f x
unfolding tally
tally_last f [] x = omega arith
tally_last f (y ∷ l) x = let e = tally_last f l x in omega arith

-- where the loop begins
pub count_none : (test : ℕ → Bool) → count test 0 ≡ 0
unfolding count tally table
count_none test = refl

next : (test : ℕ → Bool) (n : ℕ) → count test (suc n) ≡ count test n + one (test n)
unfolding count table
next test n = tally_last (λ k. one (test k)) (table (λ k. k) n) n

-- a turn of the loop
pub count_more : (test : ℕ → Bool) (n : ℕ) → count test (n + 1) ≡ count test n + one (test n)
count_more test n = ap (count test) (add-one n) ∙ next test n

-- a turn of the loop, of a number that is known to be the count so far
pub count_again : (test : ℕ → Bool) (n : ℕ) {m k : ℕ} → m ≡ count test n → k ≡ one (test n) → m + k ≡ count test (n + 1)
count_again test n e f = omega (arith, e, f, count_more test n)

-- where the loop ends
pub count_end : (test : ℕ → Bool) {i n m : ℕ} → i ≤ n → n ≤ i → m ≡ count test i → m ≡ count test n
count_end test {i} {n} p q e = let h : i ≡ n = omega arith in e ∙ ap (count test) h

-- no more than there are places
pub count_le : (test : ℕ → Bool) (n : ℕ) → count test n ≤ n
count_le test zero = omega (arith, count_none test)
count_le test (suc n) =
    let le : (b : Bool) → one b ≤ 1 = elim [ true ↦ omega arith | false ↦ omega arith ] in
    omega (arith, next test n, count_le test n, le (test n))

-- the count sees only the places below n
pub count_same : (f g : ℕ → Bool) (n : ℕ) → ((k : ℕ) → k < n → f k ≡ g k) → count f n ≡ count g n
count_same f g zero h = count_none f ∙ omega (arith, count_none g)
count_same f g (suc n) h =
    let e : one (f n) ≡ one (g n) = ap one (h n (omega arith)) in
    omega (arith, next f n, next g n, count_same f g n (λ k p. h k (omega arith)))

-- ---- worked: of 0, 1, 2 and 3 those below 2 are two
two_of_four : count (λ k. ltb k 2) 4 ≡ 2
unfolding count tally table
two_of_four = refl
