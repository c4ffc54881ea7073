-- Plain sums of integers, `total ◌+ℤ◌ s f n`, and sums in the accumulator, which are the plain ones wrapped once.
use native.Mathlib.Omega.{arith}
use Rattle.std.specs.Prelude.{◌≡◌, ◌*ℤ◌}
use Rattle.std.proofs.Math.Path.{refl, sym, ap}
use Rattle.std.proofs.Common.{◌∙◌}
use Prim.Native.Nat.{ℕ, zero, suc, ◌+◌, ◌-◌, ◌<◌, ◌≤◌}
use Rattle.std.proofs.Math.IntN.{ℤ, pos, ◌+ℤ◌, +ℤ_idl, +ℤ_idr, +ℤ_comm}
use Rattle.sequence.specs.Total.{total, total_same, total_split, total_first}
use Rattle.fixed.specs.Fixed.{acc, fold}
use Rattle.fixed.specs.Integers.{add_swap, mul_add}
use Rattle.fixed.specs.Wrap.{wrap_wrap, wrap_add}

module _ (f : ℕ → ℤ) where
  -- a term may come first or last
  pub sum_from : (s x : ℤ) (n : ℕ) → total ◌+ℤ◌ (s +ℤ x) f n ≡ total ◌+ℤ◌ s f n +ℤ x
  sum_from s x n = total_first ◌+ℤ◌ add_swap s x f n

  -- a sum taken backwards is the sum
  pub sum_backwards : (s : ℤ) (n : ℕ) → total ◌+ℤ◌ s (λ (k : ℕ). f (n - suc k)) n ≡ total ◌+ℤ◌ s f n
  unfolding total
  sum_backwards s zero = refl
  sum_backwards s (suc n) =
      let g : ℕ → ℤ = λ (k : ℕ). f (suc n - suc k) in
      let e : suc n ≡ 1 + n = omega arith in
      ap (total ◌+ℤ◌ s g) e ∙ total_split ◌+ℤ◌ s g 1 n
      ∙ total_same ◌+ℤ◌ (s +ℤ g 0) (λ (k : ℕ). g (1 + k)) (λ (k : ℕ). f (n - suc k)) n (λ k h. ap f (omega arith))
      ∙ sum_backwards (s +ℤ g 0) n ∙ sum_from s (g 0) n ∙ ap (λ (k : ℕ). total ◌+ℤ◌ s f n +ℤ f k) (omega arith)

  -- twice the sum
  pub sum_twice : (s : ℤ) (n : ℕ) → total ◌+ℤ◌ (s *ℤ pos 2) (λ (k : ℕ). f k *ℤ pos 2) n ≡ total ◌+ℤ◌ s f n *ℤ pos 2
  unfolding total
  sum_twice s zero = refl
  sum_twice s (suc n) = ap (λ (z : ℤ). z +ℤ f n *ℤ pos 2) (sum_twice s n) ∙ sym (mul_add (total ◌+ℤ◌ s f n) (f n) (pos 2))

  -- terms that are 0
  pub sum_zeros : (s : ℤ) (n : ℕ) → ((k : ℕ) → k < n → f k ≡ pos 0) → total ◌+ℤ◌ s f n ≡ s
  unfolding total
  sum_zeros s zero h = refl
  sum_zeros s (suc n) h = ap (λ (z : ℤ). total ◌+ℤ◌ s f n +ℤ z) (h n (omega arith)) ∙ +ℤ_idr _ ∙ sum_zeros s n (λ k p. h k (omega arith))

  -- a sum in the accumulator, from a start that differs from t by a wrap, wraps to what the plain sum from t does
  pub sum_wraps : (s t : ℤ) (n : ℕ) → acc s ≡ acc t → acc (total fold s f n) ≡ acc (total ◌+ℤ◌ t f n)
  unfolding total fold
  sum_wraps s t zero e = e
  sum_wraps s t (suc n) e =
      let u : ℤ = total fold s f n in
      wrap_wrap 40 (u +ℤ f n) ∙ sym (wrap_add 40 u (f n)) ∙ ap (λ (z : ℤ). acc (z +ℤ f n)) (sum_wraps s t n e) ∙ wrap_add 40 (total ◌+ℤ◌ t f n) (f n)

  -- and where it has a term it is wrapped
  pub sum_wrapped : (s t : ℤ) (n : ℕ) → acc s ≡ acc t → total fold s f (suc n) ≡ acc (total ◌+ℤ◌ t f (suc n))
  unfolding total fold
  sum_wrapped s t n e = sym (wrap_wrap 40 (total fold s f n +ℤ f n)) ∙ sum_wraps s t (suc n) e

  -- so a start that is wrapped first changes nothing then
  pub sum_acc : (s : ℤ) (n : ℕ) → 1 ≤ n → total fold (acc s) f n ≡ total fold s f n
  sum_acc s n h =
      let e : n ≡ suc (n - 1) = omega arith in
      rw e (sum_wrapped (acc s) s (n - 1) (wrap_wrap 40 s) ∙ sym (sum_wrapped s s (n - 1) refl))

  -- and the terms may be summed plainly, from 0, and come in together
  pub sum_together : (s : ℤ) (n : ℕ) → 1 ≤ n → fold s (total ◌+ℤ◌ (pos 0) f n) ≡ total fold s f n
  unfolding fold
  sum_together s n h =
      let e : n ≡ suc (n - 1) = omega arith in
      let p : total ◌+ℤ◌ s f n ≡ s +ℤ total ◌+ℤ◌ (pos 0) f n = ap (λ (z : ℤ). total ◌+ℤ◌ z f n) (sym (+ℤ_idl s)) ∙ sum_from (pos 0) s n ∙ +ℤ_comm (total ◌+ℤ◌ (pos 0) f n) s in
      ap acc (sym p) ∙ sym (ap (total fold s f) e ∙ sum_wrapped s s (n - 1) refl ∙ ap (λ (k : ℕ). acc (total ◌+ℤ◌ s f k)) (sym e))
