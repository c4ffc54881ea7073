-- A negated product of two 16-bit numbers is far within 64 bits.
use borrow.Author.Rules.{rules}
use native.Mathlib.Omega.{arith}
use mathlib.Core.Path.{◌≡◌, ◌∙◌, ap}
use mathlib.Core.List.{List}
use lib.IntN.{ℤ, pos, neg_ℤ, ◌-ℤ◌}
use lib.ListN.{get_or}
use mir.Syntax.{w16, w64}
use mir.Val.{SFits, to_z, of_z}
use mir.ValLaws.{to_z-of_z}
use Rattle.fixed.specs.Fixed as Fixed
use Rattle.fixed.specs.Abs.{abs_neg, minus_is}
use Rattle.fixed.specs.Machine.{sfits_abs, back}
use Rattle.fixed.specs.Bounds.{abs_mul16}
use Rattle.synth.specs.Synth as Synth
use Rattle.synthesis_sum.proofs.last.Goals as goal
use Rattle.synthesis_sum.proofs.last.Goals.{After-mul}

module _ (c : goal.After-mul) where
  abbrev cs : List ℤ
  cs = c.before.before.before.args.a.now

  abbrev hs : List ℤ
  hs = c.before.before.before.args.history.now

  x_fits : SFits w16 (get_or cs 1 (pos 0))
  x_fits = search rules

  y_fits : SFits w16 (get_or hs 9 (pos 0))
  y_fits = search rules

  product : to_z w64 (of_z w64 c.mul.result) ≡ Fixed.mul (get_or cs 1 (pos 0)) (get_or hs 9 (pos 0))
  product = back w64 c.mul.result c.mul.type_inv ∙ simp (to_z-of_z w16 _ x_fits, to_z-of_z w16 _ y_fits) at c.mul.ensures

  minus : pos 0 -ℤ to_z w64 (of_z w64 c.mul.result) ≡ Synth.term cs hs 0
  minus = minus_is (to_z w64 (of_z w64 c.mul.result)) ∙ ap neg_ℤ product

  fits : SFits w64 (Synth.term cs hs 0)
  fits =
      let m : ℤ = Fixed.mul (get_or cs 1 (pos 0)) (get_or hs 9 (pos 0)) in
      sfits_abs w64 _ (omega (arith, abs_neg m, abs_mul16 (get_or cs 1 (pos 0)) (get_or hs 9 (pos 0)) x_fits y_fits))

pub overflow_sub-mul : goal.overflow_sub-mul
overflow_sub-mul c = rw (minus c) (fits c)

pub returns : goal.returns
returns c = back w64 c.shift.result c.shift.type_inv ∙ simp (minus c.before, to_z-of_z w64 _ (fits c.before)) at c.shift.ensures
