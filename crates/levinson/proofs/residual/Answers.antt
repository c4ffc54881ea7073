-- Each call's result as it is defined; the negation is of an accumulator, in 64 bits.
use native.Mathlib.Omega.{arith}
use mathlib.Core.Path.{◌≡◌, ◌∙◌}
use lib.IntN.{ℤ, pos, neg_ℤ}
use mir.Syntax.{w16, w64}
use mir.Val.{SFits, to_z, of_z}
use mir.ValLaws.{to_z-of_z}
use Rattle.fixed.specs.Fixed as Fixed
use Rattle.fixed.specs.Abs.{abs_neg, minus_is}
use Rattle.fixed.specs.Bounds.{abs_shift}
use Rattle.fixed.specs.Machine.{back, sfits_abs}
use Rattle.reflection.specs.Reflection as Levinson
use Rattle.levinson.proofs.residual.Goals as goal
use Rattle.levinson.proofs.residual.Goals.{After-shift, Start}

module _ (c : goal.After-shift) where
  abbrev s : goal.Start
  s = c.before.before.before

  abbrev square : ℤ
  square = Fixed.shift (Fixed.acc (Fixed.mul s.args.kv s.args.kv)) (pos 5)

  square_is : to_z w64 (of_z w64 c.shift.result) ≡ square
  square_is =
      cc
      (to_z-of_z w16 _ s.ranges.kv, back w64 c.before.before.mul.result c.before.before.mul.type_inv, back w64 c.before.acc.result c.before.acc.type_inv, back w64 c.shift.result c.shift.type_inv)

  fits : SFits w64 (neg_ℤ square)
  fits = sfits_abs w64 _ (omega (arith, abs_neg square, abs_shift (Fixed.acc (Fixed.mul s.args.kv s.args.kv)) (pos 5)))

pub overflow_sub-shift : goal.overflow_sub-shift
overflow_sub-shift c = simp (square_is c, minus_is (square c)) (fits c)

pub returns : goal.returns
unfolding Levinson.residual
returns c =
    let k = c.before in
    back w64 c.fold.result c.fold.type_inv ∙ simp (square_is k, minus_is (square k), to_z-of_z w64 _ (fits k)) at c.fold.ensures
