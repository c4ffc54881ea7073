-- How the zero residuals are counted, a step at a time, and that they are at most nine.
use Rattle.std.proofs.Common.{arith, add-one, ap, ◌∙◌}
use Rattle.std.specs.Prelude.{Bool, true, false, cond, List, [], ◌∷◌, ◌++◌, ◌≡◌, ℕ, zero, suc, ◌+◌, ◌-◌, ◌≤◌, eqb, ℤ, nat_abs}
use Rattle.std.proofs.Math.Path.{refl}
use Rattle.sequence.specs.Table.{table}
use Rattle.sequence.specs.Repeated.{repeated}
use Rattle.sequence.specs.Lists.{tally}
use Rattle.reflection.specs.Reflection.{at, residual, step, tail, zero_residual, zero_residuals_of}

tally_last : {A : Type 0} (f : A → ℕ) (l : List A) (x : A) → tally f (l ++ (x ∷ [])) ≡ tally f l + f x
unfolding tally
tally_last f [] x = omega arith
tally_last f (y ∷ l) x = let e = tally_last f l x in omega arith

one_or_none : (kv : ℤ) → zero_residual kv ≤ 1
unfolding zero_residual
one_or_none kv = go (eqb (nat_abs (residual kv)) 0)
  where
    go : (b : Bool) → cond b 1 0 ≤ 1
    go true = omega arith
    go false = omega arith

-- by the numbers that the first step is given
module _ (k₀ : List ℤ) where
  -- 1 where the residual of step n is 0
  abbrev at_step : ℕ → ℕ
  at_step n = zero_residual (at (repeated (λ k. step (9 - k)) n k₀) (9 - n))

  -- of the first n steps
  unfoldable pub zeros_of : ℕ → ℕ
  zeros_of n = tally at_step (table (λ k. k) n)

  pub zeros_none : zeros_of 0 ≡ 0
  unfolding zeros_of tally table
  zeros_none = refl

  more : (n : ℕ) → zeros_of (suc n) ≡ zeros_of n + at_step n
  unfolding zeros_of table
  more n = tally_last at_step (table (λ k. k) n) n

  -- a turn of the loop
  pub zeros_more : (n : ℕ) → zeros_of (n + 1) ≡ zeros_of n + at_step n
  zeros_more n = ap zeros_of (add-one n) ∙ more n

  pub zeros_le : (n : ℕ) → zeros_of n ≤ n
  zeros_le zero = omega (arith, zeros_none)
  zeros_le (suc n) = omega (arith, more n, zeros_le n, one_or_none (at (repeated (λ k. step (9 - k)) n k₀) (9 - n)))

module _ (lpc : List ℤ) where
  -- where the loop ends
  pub zeros_end : {n m : ℕ} {k : List ℤ} → n ≤ 9 → 9 ≤ n → k ≡ tail lpc → m ≡ zeros_of k n → m ≡ zero_residuals_of lpc
  unfolding zeros_of zero_residuals_of
  zeros_end {n} {m} {k} p q t e =
      let h : n ≡ 9 = omega arith in
      let all : zeros_of (tail lpc) 9 ≡ zero_residuals_of lpc = refl in
      e ∙ (λ i. zeros_of (t i) (h i)) ∙ all

  pub at_most_nine : zero_residuals_of lpc ≤ 9
  unfolding zeros_of zero_residuals_of
  at_most_nine =
      let all : zeros_of (tail lpc) 9 ≡ zero_residuals_of lpc = refl in
      omega (arith, all, zeros_le (tail lpc) 9)
