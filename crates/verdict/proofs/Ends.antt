-- What `find` over a range answers.
use Rattle.std.specs.Prelude.{ℕ, ◌<◌, ◌≤◌, ◌≡◌, Bool, true, false, Option, Some, None, MatchOption, unwrap_or}
use Rattle.std.proofs.Common.{sym, ◌∙◌, true≢false, arith, eq-or-lt_of_le, ⊎_elim}
use Rattle.sequence.specs.First.{first, first_before, first_at, first_all}

module _ (f : ℕ → Bool) (n : ℕ) where
  found : (i : ℕ) → i < n → f i ≡ true → ((k : ℕ) → k < i → f k ≡ false) → i ≡ first f n
  found i h e before =
      ⊎_elim (λ (w : i ≡ first f n). w)
      (λ (w : i < first f n). absurd (true≢false (sym e ∙ first_before f n i w)))
      (eq-or-lt_of_le least)
    where
      past : first f n < i → i ≤ first f n
      past w = absurd (true≢false (sym (first_at f n (omega arith)) ∙ before (first f n) w))

      least : i ≤ first f n
      least = grind (arith, past)

  pub first_found : (r : Option ℕ) → MatchOption r ((k : ℕ) → 0 ≤ k → k < n → f k ≡ false) (λ i. (0 ≤ i) × (i < n) × (f i ≡ true) × ((k : ℕ) → 0 ≤ k → k < i → f k ≡ false)) → unwrap_or r n ≡ first f n
  first_found None h = sym (first_all f n (λ k p. h k (omega arith) p))
  first_found (Some i) h = found i h.1 h.2 (λ k p. h.3 k (omega arith) p)
