-- An accumulator without its low half is far within 32 bits.
use native.Mathlib.Omega.{arith}
use mathlib.Core.Path.{◌≡◌, ◌∙◌, ap}
use lib.IntN.{ℤ, pos}
use lib.Signed.{shr_z}
use mir.Syntax.{w32, w64}
use mir.Facts.{sfits_widen}
use mir.Val.{SFits, to_z, of_z}
use mir.ValLaws.{to_z-of_z}
use Rattle.fixed.specs.Fixed as Fixed
use Rattle.fixed.specs.Abs.{abs_shr_by}
use Rattle.fixed.specs.Bounds.{abs_fold}
use Rattle.fixed.specs.Machine.{back, sfits_abs}
use Rattle.output_filter.specs.Postfilter.{rounded_sum}
use Rattle.output_filter.specs.Sections as Sections
use Rattle.sections.proofs.wide.Goals as goal
use Rattle.sections.proofs.wide.Goals.{After-fold, Start}

module _ (c : goal.After-fold) where
  abbrev s : goal.Start
  s = c.before.before

  sum_is : to_z w64 (of_z w64 c.fold.result) ≡ rounded_sum s.args.sum (pos 2)
  unfolding rounded_sum
  sum_is =
      let k = c.before.shift in
      back w64 c.fold.result c.fold.type_inv
      ∙ simp (back w64 k.result k.type_inv) at c.fold.ensures
      ∙ ap (λ (z : ℤ). Fixed.fold z (pos 32768)) (simp (to_z-of_z w64 _ s.ranges.sum) at k.ensures)

  fits : SFits w32 (shr_z (rounded_sum s.args.sum (pos 2)) 65536)
  unfolding rounded_sum
  fits =
      let z : ℤ = rounded_sum s.args.sum (pos 2) in
      sfits_abs w32 _ (omega (arith, abs_shr_by z 65536 8388608 (omega arith) (omega (arith, abs_fold (Fixed.shift s.args.sum (pos 2)) (pos 32768)))))

  wide_fits : SFits w64 (shr_z (rounded_sum s.args.sum (pos 2)) 65536)
  wide_fits = sfits_widen tt fits

pub overflow_cast-result : goal.overflow_cast-result
overflow_cast-result c = simp (sum_is c, to_z-of_z w64 _ (wide_fits c)) (fits c)

pub returns : goal.returns
unfolding Sections.wide
returns c = simp (sum_is c, to_z-of_z w64 _ (wide_fits c), to_z-of_z w32 _ (fits c))
