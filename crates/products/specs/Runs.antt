-- A run of products of a signal and taps in the accumulator, and when their plain sum is one of 32 bits.
use Rattle.std.proofs.Common.{arith, sym, ap, ◌∙◌, of_z}
use Rattle.std.specs.Prelude.{Bool, List, ◌≡◌, leb, ℤ, pos, ◌*ℤ◌, length, get_or}
use Rattle.std.proofs.Math.Path.{refl}
use Prim.Native.Nat.{ℕ, ◌+◌, ◌*◌, ◌≤◌}
use Rattle.std.proofs.Math.IntN.{nat_abs, ◌+ℤ◌, *ℤ_comm}
use Rattle.std.specs.Int.{w32}
use Rattle.sequence.specs.Total.{total, total_more, total_same}
use Rattle.fixed.specs.Fixed.{fold, mul}
use Rattle.products.specs.PlainSums.{sum_twice, sum_together}

-- product k, the fractional one and the plain one
abbrev pub term : List ℤ → List ℤ → ℕ → ℤ
term taps signal k = mul (get_or signal k (pos 0)) (get_or taps k (pos 0))

unfoldable pub product : List ℤ → List ℤ → ℕ → ℤ
product taps signal k = get_or taps k (pos 0) *ℤ get_or signal k (pos 0)

-- the plain sum of the first n
unfoldable pub products : List ℤ → List ℤ → ℕ → ℤ
products taps signal n = total ◌+ℤ◌ (pos 0) (product taps signal) n

-- the sizes of the first n taps, added up
unfoldable pub sizes : List ℤ → ℕ → ℕ
sizes taps n = total ◌+◌ 0 (λ (k : ℕ). nat_abs (get_or taps k (pos 0))) n

-- at most 65,535: 32,768 times that is below 2 ^ 31, so a sum of products by these taps is one of 32 bits, whatever the signal
abbrev pub MOST : ℕ
MOST = 65535

unfoldable pub small : List ℤ → Bool
small taps = leb (sizes taps (length taps)) MOST

-- the plain sum, doubled, comes in as the products do
pub together : (s : ℤ) (taps signal : List ℤ) (n : ℕ) → 1 ≤ n → fold s (products taps signal n *ℤ pos 2) ≡ total fold s (term taps signal) n
unfolding products product mul
together s taps signal n h =
    let e : total ◌+ℤ◌ (pos 0) (λ (k : ℕ). product taps signal k *ℤ pos 2) n ≡ total ◌+ℤ◌ (pos 0) (term taps signal) n =
    total_same ◌+ℤ◌ (pos 0) (λ (k : ℕ). product taps signal k *ℤ pos 2) (term taps signal) n (λ k g. ap (λ (z : ℤ). z *ℤ pos 2) (*ℤ_comm (get_or taps k (pos 0)) (get_or signal k (pos 0)))) in
    ap (fold s) (sym (sum_twice (product taps signal) (pos 0) n) ∙ e) ∙ sum_together (term taps signal) s n h

module _ (taps : List ℤ) where
  pub sizes_more : (n : ℕ) → sizes taps (n + 1) ≡ sizes taps n + nat_abs (get_or taps n (pos 0))
  unfolding sizes
  sizes_more n = total_more ◌+◌ 0 (λ (k : ℕ). nat_abs (get_or taps k (pos 0))) n

  -- what a loop over the products, whose local holds the sum's bits, has made by product n
  module _ (signal : List ℤ) where
    pub record Summed (v n : ℕ) : Type 0 where
      pub le : nat_abs (products taps signal n) ≤ 32768 * sizes taps n
      pub is : v ≡ of_z w32 (products taps signal n)

    pub summed_none : Summed 0 0
    unfolding products sizes total
    summed_none = record { le = omega arith; is = refl }
