-- The product has 31 bits, and its part above the low 17 has 14.
use native.Mathlib.Omega.{arith}
use mathlib.Core.Path.{◌≡◌, ap, ◌∙◌}
use lib.IntN.{ℤ, ◌*ℤ◌}
use lib.Signed.{shr_z}
use mir.Syntax.{w16, w64}
use mir.Val.{SFits, to_z, of_z}
use mir.ValLaws.{to_z-of_z}
use Rattle.fixed.specs.Abs.{abs_mul_le, mag≤abs, mag_shr_is}
use Rattle.fixed.specs.Machine.{back, sfits_abs, abs_sfits, shr_sfits}
use Rattle.code_index.specs.Codebook as Codebook
use Rattle.code_index.proofs.quotient.Goals as goal
use Rattle.code_index.proofs.quotient.Goals.{After-from-2}

module _ (c : goal.After-from-2) where
  abbrev x : ℤ
  x = c.args.x

  abbrev y : ℤ
  y = c.word-y.result

  y_fits : SFits w16 y
  y_fits = record { sfits = c.word-y.type_inv }

  x_is : to_z w64 (of_z w64 c.from.result) ≡ x
  x_is = back w64 c.from.result c.from.type_inv ∙ c.from.ensures ∙ to_z-of_z w16 x c.ranges.x

  y_is : to_z w64 (of_z w64 c.from-2.result) ≡ y
  y_is = back w64 c.from-2.result c.from-2.type_inv ∙ c.from-2.ensures ∙ to_z-of_z w16 y y_fits

  product : SFits w64 (x *ℤ y)
  product = sfits_abs w64 _ (omega (arith, abs_mul_le x y 32768 32768 (abs_sfits w16 x c.ranges.x) (abs_sfits w16 y y_fits)))

  part : SFits w16 (shr_z (x *ℤ y) 131072)
  part =
      let p = abs_mul_le x y 32768 32768 (abs_sfits w16 x c.ranges.x) (abs_sfits w16 y y_fits) in
      record { sfits = omega (arith, mag_shr_is (x *ℤ y) 131072, mag≤abs (x *ℤ y)) }

  part_back : to_z w64 (of_z w64 (shr_z (x *ℤ y) 131072)) ≡ shr_z (x *ℤ y) 131072
  part_back = to_z-of_z w64 _ (shr_sfits w64 (x *ℤ y) 131072 product)

pub returns : goal.returns
unfolding Codebook.quotient
returns c =
    simp (x_is c, y_is c, to_z-of_z w64 _ (product c), part_back c, to_z-of_z w16 _ (part c))
    (ap (λ (z : ℤ). shr_z (x c *ℤ z) 131072) c.word-y.ensures)
