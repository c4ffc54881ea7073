-- Sums in the accumulator, `total fold s f n`: s, and then f 0, f 1, .. f (n - 1) folded in. What a loop over such a sum asks, whose local holds the sum's bits.
use native.Mathlib.Omega.{arith}
use Rattle.std.specs.Prelude.{◌≡◌, ℤ, nat_abs}
use Rattle.std.proofs.Math.Path.{refl, ap}
use Rattle.std.proofs.Common.{sym, ◌∙◌, to_z, of_z}
use Prim.Native.Nat.{ℕ, zero, suc, ◌≤◌, ◌<◌, ◌+◌, ◌*◌}
use Rattle.std.proofs.Math.Nat.{suc-mul}
use Rattle.std.proofs.Math.IntN.{◌+ℤ◌}
use Rattle.std.specs.Int.{w64}
use Rattle.std.proofs.lemmas.Int.{to_z-of_z}
use Rattle.sequence.specs.Total.{total, total_again, total_same, total_split, total_first, total_keeps}
use Rattle.fixed.specs.Fixed.{acc, fold}
use Rattle.fixed.specs.Abs.{abs_add}
use Rattle.fixed.specs.Integers.{add_swap}
use Rattle.fixed.specs.Wrap.{REACH, wrap_add, wrap_add_right, acc_fits}
use Rattle.fixed.specs.Machine.{sfits_abs}
use Rattle.fixed.specs.Bounds.{abs_fold}

-- a wrap of the sum so far or of the term changes nothing
pub fold_acc : (s t : ℤ) → fold (acc s) t ≡ fold s t
unfolding fold
fold_acc s t = wrap_add 40 s t

pub fold_acc_right : (s t : ℤ) → fold s (acc t) ≡ fold s t
unfolding fold
fold_acc_right s t = wrap_add_right 40 s t

-- terms may come in in another order
pub fold_swap : (s t u : ℤ) → fold (fold s t) u ≡ fold (fold s u) t
unfolding fold
fold_swap s t u = wrap_add 40 (s +ℤ t) u ∙ ap acc (add_swap s t u) ∙ sym (wrap_add 40 (s +ℤ u) t)

-- the first of them last
pub sum_first : (s : ℤ) (f : ℕ → ℤ) (n : ℕ) → total fold s f (suc n) ≡ fold (total fold s (λ (k : ℕ). f (k + 1)) n) (f 0)
unfolding total
sum_first s f n =
    let e : suc n ≡ 1 + n = omega arith in
    ap (total fold s f) e ∙ total_split fold s f 1 n
    ∙ total_same fold (fold s (f 0)) (λ (k : ℕ). f (1 + k)) (λ (k : ℕ). f (k + 1)) n (λ k h. ap f (omega arith))
    ∙ total_first fold fold_swap s (f 0) (λ (k : ℕ). f (k + 1)) n

-- where the sum fits it is the sum
pub fold_fits : (s t : ℤ) → nat_abs s + nat_abs t < REACH → fold s t ≡ s +ℤ t
unfolding fold
fold_fits s t h = acc_fits (s +ℤ t) (omega (arith, abs_add s t))

-- a running sum is an accumulator
pub sum_le : (s : ℤ) (f : ℕ → ℤ) (n : ℕ) → nat_abs s ≤ REACH → nat_abs (total fold s f n) ≤ REACH
sum_le s f n h = total_keeps fold (λ (x : ℤ). nat_abs x ≤ REACH) s f (λ x k p. abs_fold x (f k)) h n

-- a local v that holds the bits of a sum
module _ (s : ℤ) (f : ℕ → ℤ) (n : ℕ) (v : ℕ) (h : nat_abs s ≤ REACH) (e : v ≡ of_z w64 (total fold s f n)) where
  pub sum_back : to_z w64 v ≡ total fold s f n
  sum_back = ap (to_z w64) e ∙ to_z-of_z w64 _ (sfits_abs w64 _ (omega (arith, sum_le s f n h)))

  -- a turn of the loop: r is the new sum
  pub sum_again : (r : ℤ) → r ≡ fold (to_z w64 v) (f n) → of_z w64 r ≡ of_z w64 (total fold s f (n + 1))
  sum_again r g = ap (of_z w64) (total_again fold s f n sum_back g)

-- ---- where no partial sum can leave the accumulator, the total is the plain sum
module _ (s : ℤ) (f : ℕ → ℤ) (m : ℕ) (small : (k : ℕ) → nat_abs (f k) ≤ m) where
  pub plain_le : (n : ℕ) → nat_abs (total ◌+ℤ◌ s f n) ≤ nat_abs s + n * m
  unfolding total
  plain_le zero = omega arith
  plain_le (suc n) = let d : suc n * m ≡ n * m + m = suc-mul n m in omega (arith, abs_add (total ◌+ℤ◌ s f n) (f n), small n, plain_le n)

  pub sum_fits : (n : ℕ) → nat_abs s + n * m < REACH → total fold s f n ≡ total ◌+ℤ◌ s f n
  unfolding total
  sum_fits zero h = refl
  sum_fits (suc n) h =
      let d : suc n * m ≡ n * m + m = suc-mul n m in
      ap (λ (x : ℤ). fold x (f n)) (sum_fits n (omega arith)) ∙ fold_fits (total ◌+ℤ◌ s f n) (f n) (omega (arith, small n, plain_le n))
