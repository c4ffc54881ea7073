-- The two cases of a reciprocal. `zero-exactly`: an accumulator that holds 0 has the case Zero, with one number, and every other the case Ordinary.
-- What a caller works with, quotient and exponent, is made alike in either (`quotient_is`, `exponent-is`).
use Rattle.std.proofs.Common.{arith, ◌∙◌, ne_eqb}
use Rattle.std.specs.Prelude.{Bool, ◌≡◌, ◌*◌, eqb, ℤ, negsuc, nat_abs, ◌+ℤ◌}
use Rattle.std.proofs.Math.Bool.{true, false, cond}
use Rattle.std.proofs.Math.Path.{refl, ap}
use Rattle.std.proofs.Math.IntN.{pos, one, *ℤ-one}
use Rattle.fixed.specs.declared.Reciprocal.{Reciprocal}
use Rattle.fixed.specs.declared.Reciprocal.TheVariants.{Zero, Ordinary}
use Rattle.fixed.specs.Fixed.{residue, signed, wrap, clamp, acc, fold, shift, exp, restoring_step, restoring_divide, size_reciprocal, signed_reciprocal, normalised_reciprocal, quotient, exponent, zeros}
use Rattle.fixed.specs.Shifts.{shift_up, exp_of_zero}

of_zero : signed_reciprocal (pos 0) ≡ pos (32736 * 65536)
unfolding signed_reciprocal size_reciprocal restoring_divide restoring_step clamp fold shift wrap signed residue
of_zero = refl

size_zero : (z : ℤ) → nat_abs z ≡ 0 → z ≡ pos 0
size_zero (pos n) e = ap pos e
size_zero (negsuc n) e = absurd (omega arith)

module _ (v : ℤ) where
  abbrev q : ℤ
  q = signed_reciprocal (shift v (exp v))

  abbrev e : ℤ
  e = exp v +ℤ pos 1

  is_zero : acc v ≡ pos 0 → normalised_reciprocal v ≡ Zero (pos (32736 * 65536)) (pos 1)
  unfolding normalised_reciprocal one
  is_zero h =
      let x : exp v ≡ pos 0 = exp_of_zero v h in
      let n : shift v (pos 0) ≡ pos 0 = shift_up v 0 (omega arith) ∙ ap (λ (z : ℤ). acc z) (*ℤ-one v) ∙ h in
      simp (h, x, n, of_zero)

  is_ordinary : (acc v ≡ pos 0 → ⊥) → normalised_reciprocal v ≡ Ordinary q e
  unfolding normalised_reciprocal
  is_ordinary h = rw (ne_eqb (nat_abs (acc v)) 0 (λ z. h (size_zero (acc v) z)))

  pub zero_exactly : (acc v ≡ pos 0 → normalised_reciprocal v ≡ Zero (pos (32736 * 65536)) (pos 1)) × ((acc v ≡ pos 0 → ⊥) → normalised_reciprocal v ≡ Ordinary q e)
  zero_exactly = (is_zero, is_ordinary)

  -- either case, by a test
  abbrev cases : Bool → Reciprocal
  cases t = cond t (Zero q e) (Ordinary q e)

  pub quotient_is : quotient (normalised_reciprocal v) ≡ q
  unfolding quotient normalised_reciprocal
  quotient_is = go (eqb (nat_abs (acc v)) 0)
    where
      go : (t : Bool) → quotient (cases t) ≡ q
      go true = refl
      go false = refl

  pub exponent_is : exponent (normalised_reciprocal v) ≡ e
  unfolding exponent normalised_reciprocal
  exponent_is = go (eqb (nat_abs (acc v)) 0)
    where
      go : (t : Bool) → exponent (cases t) ≡ e
      go true = refl
      go false = refl

  pub zeros_is : zeros (normalised_reciprocal v) ≡ cond (eqb (nat_abs (acc v)) 0) 1 0
  unfolding zeros normalised_reciprocal
  zeros_is = go (eqb (nat_abs (acc v)) 0)
    where
      go : (t : Bool) → zeros (cases t) ≡ cond t 1 0
      go true = refl
      go false = refl
