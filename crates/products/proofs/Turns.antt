-- A turn of the loop over the products of taps that are small: the sum stays within 32 bits.
use Rattle.std.proofs.Common.{arith, sym, ap, ◌∙◌, SFits, to_z, of_z}
use Rattle.std.specs.Prelude.{List, ◌≡◌, ℤ, pos, ◌*ℤ◌, get_or}
use Prim.Native.Nat.{ℕ, zero, suc, ◌+◌, ◌-◌, ◌*◌, ◌≤◌, ◌<◌}
use Rattle.std.proofs.Math.IntN.{nat_abs, ◌+ℤ◌}
use Rattle.std.specs.Int.Signed.{mag}
use Rattle.std.specs.Int.{w16, w32}
use Rattle.std.proofs.lemmas.Int.{to_z-of_z}
use Rattle.sequence.specs.Total.{total_more}
use Rattle.fixed.specs.Abs.{abs_add, abs_mul_le}
use Rattle.fixed.specs.Machine.{sfits_abs, abs_sfits, widened_to}
use Rattle.products.specs.Runs.{product, products, sizes, MOST, sizes_more, Summed}

module _ (taps : List ℤ) where
  sizes_add : (n m : ℕ) → sizes taps n ≤ sizes taps (n + m)
  sizes_add n zero = let e : n + 0 ≡ n = omega arith in rw e (omega arith)
  sizes_add n (suc m) = let e : n + suc m ≡ n + m + 1 = omega arith in rw e (omega (arith, sizes_more taps (n + m), sizes_add n m))

  sizes_le : (n m : ℕ) → n ≤ m → sizes taps n ≤ sizes taps m
  sizes_le n m h = let e : n + (m - n) ≡ m = omega arith in rw e at (sizes_add n (m - n))

  module _ (signal : List ℤ) where
    module _ (count : ℕ) (s : sizes taps count ≤ MOST) where
      fits : (n : ℕ) → n ≤ count → nat_abs (products taps signal n) ≤ 32768 * sizes taps n → SFits w32 (products taps signal n)
      fits n h p = sfits_abs w32 _ (omega (arith, sizes_le n count h))

      pub summed_back : (v n : ℕ) → n ≤ count → Summed taps signal v n → to_z w32 v ≡ products taps signal n
      summed_back v n h i = ap (to_z w32) i.is ∙ to_z-of_z w32 _ (fits n h i.le)

      -- a turn of the loop, of which the machine reads both factors as 32 bits
      module _ (v n : ℕ) (h : n < count) (i : Summed taps signal v n) (p : mag (get_or taps n (pos 0)) < 32768) (q : mag (get_or signal n (pos 0)) < 32768) where
        abbrev x : ℤ
        x = get_or taps n (pos 0)

        abbrev y : ℤ
        y = get_or signal n (pos 0)

        x_fits : SFits w16 x
        x_fits = record { sfits = p }

        y_fits : SFits w16 y
        y_fits = record { sfits = q }

        one_more : products taps signal (n + 1) ≡ products taps signal n +ℤ x *ℤ y
        unfolding product products
        one_more = total_more ◌+ℤ◌ (pos 0) (product taps signal) n

        le_more : nat_abs (products taps signal (n + 1)) ≤ 32768 * sizes taps (n + 1)
        le_more =
            let r : nat_abs (x *ℤ y) ≤ nat_abs x * 32768 = abs_mul_le x y (nat_abs x) 32768 (omega arith) (abs_sfits w16 y y_fits) in
            rw (one_more, sizes_more taps n) (omega (arith, i.le, abs_add (products taps signal n) (x *ℤ y)))

        product_fits : SFits w32 (x *ℤ y)
        product_fits = sfits_abs w32 _ (omega (arith, abs_mul_le x y 32768 32768 (abs_sfits w16 x x_fits) (abs_sfits w16 y y_fits)))

        pub turn_mul : SFits w32 (to_z w32 (of_z w32 (to_z w16 (of_z w16 x))) *ℤ to_z w32 (of_z w32 (to_z w16 (of_z w16 y))))
        turn_mul = rw (widened_to w32 tt x_fits, widened_to w32 tt y_fits) product_fits

        term_back : to_z w32 (of_z w32 (to_z w32 (of_z w32 (to_z w16 (of_z w16 x))) *ℤ to_z w32 (of_z w32 (to_z w16 (of_z w16 y))))) ≡ x *ℤ y
        term_back = rw (widened_to w32 tt x_fits, widened_to w32 tt y_fits) (to_z-of_z w32 _ product_fits)

        abbrev next : ℤ
        next = to_z w32 v +ℤ to_z w32 (of_z w32 (to_z w32 (of_z w32 (to_z w16 (of_z w16 x))) *ℤ to_z w32 (of_z w32 (to_z w16 (of_z w16 y)))))

        next_is : next ≡ products taps signal (n + 1)
        next_is = ap (λ (z : ℤ). to_z w32 v +ℤ z) term_back ∙ ap (λ (z : ℤ). z +ℤ x *ℤ y) (summed_back v n (omega arith) i) ∙ sym one_more

        pub turn_add : SFits w32 next
        turn_add = rw next_is (fits (n + 1) (omega arith) le_more)

        pub turn_more : Summed taps signal (of_z w32 next) (n + 1)
        turn_more = record { le = le_more; is = ap (of_z w32) next_is }
