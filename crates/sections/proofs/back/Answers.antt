-- x has 32 bits, so that its product over 2 ^ 15 is mul32x16's; the term is an accumulator, negated.
use native.Mathlib.Omega.{arith}
use mathlib.Core.Path.{◌≡◌, sym, ◌∙◌, ap}
use lib.IntN.{ℤ, pos, neg_ℤ, ◌-ℤ◌, ◌*ℤ◌}
use lib.Signed.{shr_z}
use mir.Syntax.{w16, w32, w64}
use mir.Val.{SFits, to_z, of_z}
use mir.ValLaws.{to_z-of_z}
use Rattle.fixed.specs.Fixed as Fixed
use Rattle.fixed.specs.Abs.{abs_neg, abs_mul_le, minus_is}
use Rattle.fixed.specs.Wrap.{wrap_id}
use Rattle.fixed.specs.Bounds.{abs_shift}
use Rattle.fixed.specs.Machine.{back, sfits_abs, abs_sfits, shr_sfits, widens, widened}
use Rattle.output_filter.specs.Postfilter as Postfilter
use Rattle.sections.proofs.back.Goals as goal
use Rattle.sections.proofs.back.Goals.{After-shift, Start}

module _ (s : goal.Start) where
  abbrev x : ℤ
  x = s.args.x

  abbrev tap : ℤ
  tap = s.args.tap

  product_fits : SFits w64 (x *ℤ tap)
  product_fits = sfits_abs w64 _ (omega (arith, abs_mul_le x tap 2147483648 32768 (abs_sfits w32 x s.ranges.x) (abs_sfits w16 tap s.ranges.tap)))

  product_is : shr_z (x *ℤ tap) 32768 ≡ Fixed.mul32x16 x tap
  unfolding Fixed.mul32x16
  product_is = ap (λ (z : ℤ). shr_z (z *ℤ tap) 32768) (sym (wrap_id 31 x s.ranges.x.sfits))

pub overflow_cast-product : goal.overflow_cast-product
overflow_cast-product c = widens tt c.ranges.x

pub overflow_cast-product-2 : goal.overflow_cast-product-2
overflow_cast-product-2 c = widens tt c.ranges.tap

pub overflow_mul-product : goal.overflow_mul-product
overflow_mul-product c = simp (widened tt c.ranges.x, widened tt c.ranges.tap) (product_fits c)

module _ (c : goal.After-shift) where
  abbrev s : goal.Start
  s = c.before

  doubled : to_z w64 (of_z w64 c.shift.result) ≡ Fixed.shift (Fixed.mul32x16 (x s) (tap s)) (pos 1)
  doubled =
      back w64 c.shift.result c.shift.type_inv
      ∙ simp (widened tt s.ranges.x, widened tt s.ranges.tap, to_z-of_z w64 _ (product_fits s), to_z-of_z w64 _ (shr_sfits w64 _ 32768 (product_fits s))) at c.shift.ensures
      ∙ ap (λ (z : ℤ). Fixed.shift z (pos 1)) (product_is s)

  term : pos 0 -ℤ to_z w64 (of_z w64 c.shift.result) ≡ Postfilter.back (x s) (tap s)
  unfolding Postfilter.back
  term = minus_is (to_z w64 (of_z w64 c.shift.result)) ∙ ap neg_ℤ doubled

  term_fits : SFits w64 (Postfilter.back (x s) (tap s))
  unfolding Postfilter.back
  term_fits =
      let d : ℤ = Fixed.shift (Fixed.mul32x16 (x s) (tap s)) (pos 1) in
      sfits_abs w64 _ (omega (arith, abs_neg d, abs_shift (Fixed.mul32x16 (x s) (tap s)) (pos 1)))

pub overflow_sub-shift : goal.overflow_sub-shift
overflow_sub-shift c = rw (term c) (term_fits c)

pub returns : goal.returns
returns c =
    let b = c.before in
    back w64 c.fold.result c.fold.type_inv ∙ simp (to_z-of_z w64 _ (s b).ranges.sum, term b, to_z-of_z w64 _ (term_fits b)) at c.fold.ensures
