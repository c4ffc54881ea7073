-- What is saturated has 32 bits, so its high half has 16; the rest is one call after the other.
use native.Mathlib.Omega.{arith}
use mathlib.Core.Path.{◌≡◌, ◌∙◌, ap}
use Prim.Native.Nat.{ℕ, ◌<◌, ◌*◌}
use lib.IntN.{ℤ, pos, nat_abs, ◌*ℤ◌}
use lib.Signed.{mag, shr_z}
use mir.Syntax.{w16, w64}
use mir.Val.{SFits, to_z, of_z}
use mir.ValLaws.{to_z-of_z}
use Rattle.fixed.specs.Fixed as Fixed
use Rattle.fixed.specs.Abs.{abs_neg, abs_mul_le, mag_shr_is}
use Rattle.fixed.specs.Wrap.{residue_lt}
use Rattle.fixed.specs.Machine.{sfits_abs, back, shr_sfits}
use Rattle.fixed.specs.Bounds.{mag_sat}
use Rattle.reciprocal.proofs.size_reciprocal.Goals as goal
use Rattle.reciprocal.proofs.size_reciprocal.Goals.{After-reciprocal_bits, After-sat, Start}

pub abs-requires : goal.abs-requires
abs-requires c = rw (to_z-of_z w64 _ c.ranges.n) (sfits_abs w64 _ (omega (arith, abs_neg c.args.n, c.requires)))

module _ (c : goal.After-sat) where
  abbrev S : ℤ
  S = c.sat.result

  abbrev start : goal.Start
  start = c.before.before

  S_is : S ≡ Fixed.sat (pos (nat_abs start.args.n))
  S_is =
      simp (back w64 c.before.abs.result c.before.abs.type_inv) at c.sat.ensures
      ∙ ap (λ (z : ℤ). Fixed.sat z) (simp (to_z-of_z w64 _ start.ranges.n) at c.before.abs.ensures.value)

  S_mag : mag S < 2147483648
  S_mag = rw S_is (mag_sat _)

  S_back : to_z w64 (of_z w64 S) ≡ S
  S_back = back w64 S c.sat.type_inv

  half_fits_lem : SFits w16 (shr_z S 65536)
  half_fits_lem = record { sfits = omega (arith, S_mag, mag_shr_is S 65536) }

  half_back : to_z w64 (of_z w64 (shr_z S 65536)) ≡ shr_z S 65536
  half_back = to_z-of_z w64 _ (shr_sfits w64 S 65536 (record { sfits = c.sat.type_inv }))

pub overflow_cast-size : goal.overflow_cast-size
overflow_cast-size c = simp (S_back c, half_back c) (half_fits_lem c)

module _ (c : goal.After-reciprocal_bits) where
  abbrev R : ℕ
  R = Fixed.residue 65536 (Fixed.restoring_divide (pos (16383 * 65536)) (shr_z (S c.before) 65536) 15)

  R_is : to_z w64 (of_z w64 c.reciprocal_bits.result) ≡ pos R
  R_is = back w64 c.reciprocal_bits.result c.reciprocal_bits.type_inv ∙ simp (S_back c.before, half_back c.before, to_z-of_z w16 _ (half_fits_lem c.before)) at c.reciprocal_bits.ensures

  P_fits : SFits w64 (pos R *ℤ pos 65536)
  P_fits = sfits_abs w64 _ (omega (arith, abs_mul_le (pos R) (pos 65536) 65536 65536 (omega (arith, residue_lt 65536 (Fixed.restoring_divide (pos (16383 * 65536)) (shr_z (S c.before) 65536) 15) (omega arith))) (omega arith)))

pub overflow_mul-reciprocal_bits : goal.overflow_mul-reciprocal_bits
overflow_mul-reciprocal_bits c = simp (R_is c) (P_fits c)

pub returns : goal.returns
unfolding Fixed.size_reciprocal
returns c =
    let d = c.before in
    back w64 c.acc.result c.acc.type_inv
    ∙ simp (R_is d, to_z-of_z w64 _ (P_fits d)) at c.acc.ensures
    ∙ ap (λ (z : ℤ). Fixed.acc (pos (Fixed.residue 65536 (Fixed.restoring_divide (pos (16383 * 65536)) (shr_z z 65536) 15)) *ℤ pos 65536)) (S_is d.before)
