-- The wraps of the two terms change nothing of the sum's wrap, and their sum has 41 bits.
use native.Mathlib.Omega.{arith}
use mathlib.Core.Path.{◌≡◌, ◌∙◌}
use lib.IntN.{ℤ, ◌+ℤ◌}
use mir.Syntax.{w64}
use mir.Val.{SFits, to_z, of_z}
use mir.ValLaws.{to_z-of_z}
use Rattle.fixed.specs.Fixed as Fixed
use Rattle.fixed.specs.Abs.{abs_add}
use Rattle.fixed.specs.Wrap.{wrap_add, wrap_add_right}
use Rattle.fixed.specs.Machine.{back, sfits_abs}
use Rattle.fixed.specs.Bounds.{abs_acc}
use Rattle.fixed.proofs.fold.Goals as goal
use Rattle.fixed.proofs.fold.Goals.{After-acc-2}

module _ (c : goal.After-acc-2) where
  abbrev s : ℤ
  s = c.before.before.args.sum

  abbrev t : ℤ
  t = c.before.before.args.term

  s_is : to_z w64 (of_z w64 c.before.acc.result) ≡ Fixed.acc s
  s_is = back w64 c.before.acc.result c.before.acc.type_inv ∙ simp (to_z-of_z w64 s c.before.before.ranges.sum) at c.before.acc.ensures

  t_is : to_z w64 (of_z w64 c.acc-2.result) ≡ Fixed.acc t
  t_is = back w64 c.acc-2.result c.acc-2.type_inv ∙ simp (to_z-of_z w64 t c.before.before.ranges.term) at c.acc-2.ensures

  fits : SFits w64 (Fixed.acc s +ℤ Fixed.acc t)
  fits = sfits_abs w64 _ (omega (arith, abs_add (Fixed.acc s) (Fixed.acc t), abs_acc s, abs_acc t))

pub overflow_add-acc : goal.overflow_add-acc
overflow_add-acc c = simp (s_is c, t_is c) (fits c)

pub returns : goal.returns
unfolding Fixed.fold
returns c =
    let b = c.before in
    back w64 c.acc-3.result c.acc-3.type_inv
    ∙ simp (s_is b, t_is b, to_z-of_z w64 _ (fits b)) at c.acc-3.ensures
    ∙ wrap_add 40 (s b) (Fixed.acc (t b)) ∙ wrap_add_right 40 (s b) (t b)
