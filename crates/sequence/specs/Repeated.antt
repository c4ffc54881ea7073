-- A step done n times, the step being told which it is; and the loop that does it, a turn for each.
-- It does not unfold by itself: at a numeral, as 80, it would be written out 80 times.
use Prim.Native.Nat.{ℕ, zero, suc, ◌+◌, ◌≤◌}
use Rattle.std.specs.Prelude.{◌≡◌}
use Rattle.std.proofs.Math.Path.{refl, ap}
use Rattle.std.proofs.Common.{◌∙◌, arith}
use Rattle.std.proofs.Math.Numerals.{add-one}

module _ {A : Type 0} where
  -- step n - 1 of .. of step 1 of step 0 of a
  unfoldable pub repeated : (ℕ → A → A) → ℕ → A → A
  repeated step zero a = a
  repeated step (suc n) a = step n (repeated step n a)

  -- where the loop begins
  pub repeated_none : (step : ℕ → A → A) (a : A) → repeated step 0 a ≡ a
  unfolding repeated
  repeated_none step a = refl

  -- a turn of the loop, of a value that is known to be the steps done so far
  pub repeated_again : (step : ℕ → A → A) (n : ℕ) (a : A) {v w : A} → v ≡ repeated step n a → w ≡ step n v → w ≡ repeated step (n + 1) a
  unfolding repeated
  repeated_again step n a e f = rw add-one (f ∙ ap (step n) e)

  -- where the loop ends
  pub repeated_end : (step : ℕ → A → A) {i n : ℕ} (a : A) {v : A} → i ≤ n → n ≤ i → v ≡ repeated step i a → v ≡ repeated step n a
  repeated_end step {i} {n} a p q e = let h : i ≡ n = omega arith in e ∙ ap (λ (k : ℕ). repeated step k a) h

  -- two steps that do the same at each turn's place give the same
  pub repeated_same : (f g : ℕ → A → A) (n : ℕ) (a : A) → ((k : ℕ) (x : A) → f k x ≡ g k x) → repeated f n a ≡ repeated g n a
  unfolding repeated
  repeated_same f g zero a h = refl
  repeated_same f g (suc n) a h = ap (f n) (repeated_same f g n a h) ∙ h n (repeated g n a)

-- what a step keeps is kept
pub repeated_keeps : {A : Type 0} (step : ℕ → A → A) (P : A → Type 0) → ((k : ℕ) (x : A) → P x → P (step k x)) → (n : ℕ) (a : A) → P a → P (repeated step n a)
unfolding repeated
repeated_keeps step P h zero a p = p
repeated_keeps step P h (suc n) a p = h n (repeated step n a) (repeated_keeps step P h n a p)
