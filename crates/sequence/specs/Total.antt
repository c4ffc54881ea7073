-- A running total: s, and then f 0, f 1, .. f (n - 1) brought in one after the other by a step; and the loop that forms it.
use Prim.Native.Nat.{ℕ, zero, suc, ◌+◌, ◌<◌, ◌≤◌}
use Rattle.std.specs.Prelude.{◌≡◌}
use Rattle.std.proofs.Math.Path.{refl, ap}
use Rattle.std.proofs.Common.{◌∙◌, add-zero, add-suc, arith}
use Rattle.std.proofs.Math.Numerals.{add-one}

module _ {A B : Type 0} where
  unfoldable pub total : (A → B → A) → A → (ℕ → B) → ℕ → A
  total step s f zero = s
  total step s f (suc n) = step (total step s f n) (f n)

  -- where the loop begins
  pub total_none : (step : A → B → A) (s : A) (f : ℕ → B) → total step s f 0 ≡ s
  unfolding total
  total_none step s f = refl

  -- a turn of the loop
  pub total_more : (step : A → B → A) (s : A) (f : ℕ → B) (n : ℕ) → total step s f (n + 1) ≡ step (total step s f n) (f n)
  unfolding total
  total_more step s f n = rw add-one

  -- a turn of the loop, of a value that is known to be the total so far
  pub total_again : (step : A → B → A) (s : A) (f : ℕ → B) (n : ℕ) {v w : A} → v ≡ total step s f n → w ≡ step v (f n) → w ≡ total step s f (n + 1)
  unfolding total
  total_again step s f n e g = rw add-one (g ∙ ap (λ (x : A). step x (f n)) e)

  -- where the loop ends
  pub total_end : (step : A → B → A) (s : A) (f : ℕ → B) {i n : ℕ} {v : A} → i ≤ n → n ≤ i → v ≡ total step s f i → v ≡ total step s f n
  total_end step s f {i} {n} p q e = let h : i ≡ n = omega arith in e ∙ ap (total step s f) h

  -- the total sees only the terms below n
  pub total_same : (step : A → B → A) (s : A) (f g : ℕ → B) (n : ℕ) → ((k : ℕ) → k < n → f k ≡ g k) → total step s f n ≡ total step s g n
  unfolding total
  total_same step s f g zero h = refl
  total_same step s f g (suc n) h =
      ap (λ (x : A). step x (f n)) (total_same step s f g n (λ k p. h k (omega arith))) ∙ ap (step (total step s g n)) (h n (omega arith))

  -- the total of m + n terms goes on from that of m
  pub total_split : (step : A → B → A) (s : A) (f : ℕ → B) (m n : ℕ) → total step s f (m + n) ≡ total step (total step s f m) (λ (k : ℕ). f (m + k)) n
  unfolding total
  total_split step s f m zero = ap (total step s f) (add-zero m)
  total_split step s f m (suc n) = ap (total step s f) (add-suc m n) ∙ rw (total_split step s f m n)

  -- where terms may come in in another order, the first may come last
  pub total_first : (step : A → B → A) → ((s : A) (x y : B) → step (step s x) y ≡ step (step s y) x) → (s : A) (x : B) (f : ℕ → B) (n : ℕ) → total step (step s x) f n ≡ step (total step s f n) x
  unfolding total
  total_first step swap s x f zero = refl
  total_first step swap s x f (suc n) = ap (λ (a : A). step a (f n)) (total_first step swap s x f n) ∙ swap (total step s f n) x (f n)

-- what a step keeps is kept
pub total_keeps : {A B : Type 0} (step : A → B → A) (P : A → Type 0) (s : A) (f : ℕ → B) → ((x : A) (k : ℕ) → P x → P (step x (f k))) → P s → (n : ℕ) → P (total step s f n)
unfolding total
total_keeps step P s f h p zero = p
total_keeps step P s f h p (suc n) = h (total step s f n) n (total_keeps step P s f h p n)
