-- What is subtracted has 31 bits.
use native.Mathlib.Omega.{arith}
use mathlib.Core.Path.{◌≡◌, ap, ◌∙◌}
use lib.IntN.{ℤ, ◌*ℤ◌, ◌-ℤ◌}
use mir.Syntax.{w16, w64}
use mir.Val.{SFits, to_z, of_z}
use mir.ValLaws.{to_z-of_z}
use Rattle.fixed.specs.Fixed as Fixed
use Rattle.fixed.specs.Abs.{abs_mul_le, abs_sub}
use Rattle.fixed.specs.Machine.{back, sfits_abs, abs_sfits}
use Rattle.code_index.specs.Codebook as Codebook
use Rattle.code_index.proofs.remainder.Goals as goal
use Rattle.code_index.proofs.remainder.Goals.{After-from-3}

module _ (c : goal.After-from-3) where
  abbrev x : ℤ
  x = c.args.x

  abbrev q : ℤ
  q = c.quotient-q.result

  abbrev y : ℤ
  y = c.word-y.result

  q_fits : SFits w16 q
  q_fits = record { sfits = c.quotient-q.type_inv }

  y_fits : SFits w16 y
  y_fits = record { sfits = c.word-y.type_inv }

  x_is : to_z w64 (of_z w64 c.from.result) ≡ x
  x_is = back w64 c.from.result c.from.type_inv ∙ c.from.ensures ∙ to_z-of_z w16 x c.ranges.x

  q_is : to_z w64 (of_z w64 c.from-2.result) ≡ q
  q_is = back w64 c.from-2.result c.from-2.type_inv ∙ c.from-2.ensures ∙ to_z-of_z w16 q q_fits

  y_is : to_z w64 (of_z w64 c.from-3.result) ≡ y
  y_is = back w64 c.from-3.result c.from-3.type_inv ∙ c.from-3.ensures ∙ to_z-of_z w16 y y_fits

  product : SFits w64 (q *ℤ y)
  product = sfits_abs w64 _ (omega (arith, abs_mul_le q y 32768 32768 (abs_sfits w16 q q_fits) (abs_sfits w16 y y_fits)))

  difference : SFits w64 (x -ℤ q *ℤ y)
  difference =
      sfits_abs w64 _
      (omega (arith, abs_sub x (q *ℤ y), abs_sfits w16 x c.ranges.x, abs_mul_le q y 32768 32768 (abs_sfits w16 q q_fits) (abs_sfits w16 y y_fits)))

  quotient_is : q ≡ Codebook.quotient c.args.words.now c.args.class c.args.k x
  quotient_is = simp (to_z-of_z w16 x c.ranges.x) at c.quotient-q.ensures

pub overflow_sub-from : goal.overflow_sub-from
overflow_sub-from c = simp (x_is c, q_is c, y_is c, to_z-of_z w64 _ (product c)) (difference c)

pub returns : goal.returns
unfolding Codebook.remainder
returns c =
    let b = c.before in
    back w16 c.low.result c.low.type_inv
    ∙ simp (x_is b, q_is b, y_is b, to_z-of_z w64 _ (product b), to_z-of_z w64 _ (difference b)) at c.low.ensures
    ∙ ap (λ (z : ℤ). Fixed.wrap 16 (x b -ℤ z *ℤ y b)) (quotient_is b)
    ∙ ap (λ (z : ℤ). Fixed.wrap 16 (x b -ℤ Codebook.quotient b.args.words.now b.args.class b.args.k (x b) *ℤ z)) c.word-y.ensures
