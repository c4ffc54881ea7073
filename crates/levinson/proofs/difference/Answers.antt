-- Each call's result as it is defined; the negation is of an accumulator, in 64 bits.
use native.Mathlib.Omega.{arith}
use mathlib.Core.Path.{◌≡◌, ◌∙◌, ap}
use lib.IntN.{ℤ, pos, neg_ℤ, ◌*ℤ◌}
use mir.Syntax.{w16, w64}
use mir.Val.{SFits, to_z, of_z}
use mir.ValLaws.{to_z-of_z}
use Rattle.fixed.specs.Fixed as Fixed
use Rattle.fixed.specs.Abs.{abs_neg, minus_is, abs_mul_le}
use Rattle.fixed.specs.Bounds.{abs_shift}
use Rattle.fixed.specs.Machine.{back, widens, widened, sfits_abs, abs_sfits}
use Rattle.reflection.specs.Reflection as Levinson
use Rattle.levinson.proofs.difference.Goals as goal
use Rattle.levinson.proofs.difference.Goals.{After-shift, Start}

x_fits : (c : goal.Start) → SFits w64 (c.args.x *ℤ pos 65536)
x_fits c = sfits_abs w64 _ (omega (arith, abs_mul_le c.args.x (pos 65536) 32768 65536 (abs_sfits w16 c.args.x c.ranges.x) (omega arith)))

pub overflow_cast-x : goal.overflow_cast-x
overflow_cast-x c = widens tt c.ranges.x

pub overflow_mul-x : goal.overflow_mul-x
overflow_mul-x c = simp (widened tt c.ranges.x) (x_fits c)

module _ (c : goal.After-shift) where
  abbrev s : goal.Start
  s = c.before.before.before

  abbrev part : ℤ
  part = Fixed.shift (Fixed.acc (Fixed.mul s.args.y s.args.kv)) (pos 3)

  part_is : to_z w64 (of_z w64 c.shift.result) ≡ part
  part_is =
      cc
      (to_z-of_z w16 _ s.ranges.y, to_z-of_z w16 _ s.ranges.kv, back w64 c.before.before.mul.result c.before.before.mul.type_inv, back w64 c.before.acc.result c.before.acc.type_inv, back w64 c.shift.result c.shift.type_inv)

  fits : SFits w64 (neg_ℤ part)
  fits = sfits_abs w64 _ (omega (arith, abs_neg part, abs_shift (Fixed.acc (Fixed.mul s.args.y s.args.kv)) (pos 3)))

pub overflow_sub-shift : goal.overflow_sub-shift
overflow_sub-shift c = simp (part_is c, minus_is (part c)) (fits c)

pub returns : goal.returns
unfolding Levinson.difference
returns c =
    let k = c.before.before in
    let f : c.before.fold.result ≡ Fixed.fold ((s k).args.x *ℤ pos 65536) (neg_ℤ (part k)) = simp (widened tt (s k).ranges.x, to_z-of_z w64 _ (x_fits (s k)), part_is k, minus_is (part k), to_z-of_z w64 _ (fits k)) at c.before.fold.ensures in
    back w64 c.sat.result c.sat.type_inv ∙ simp (back w64 c.before.fold.result c.before.fold.type_inv) at c.sat.ensures ∙ ap (λ (z : ℤ). Fixed.sat z) f
