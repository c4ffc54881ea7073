-- Each call's result as it is defined, and then the two arms.
use native.Mathlib.Omega.{arith}
use mathlib.Core.Bool.{true, false}
use mathlib.Core.Path.{◌≡◌, ◌∙◌}
use lib.IntN.{ℤ, pos, neg_ℤ}
use lib.Signed.{lt_z}
use mir.Syntax.{w16, w64}
use mir.Val.{SFits, to_z, of_z}
use mir.ValLaws.{to_z-of_z}
use Rattle.fixed.specs.Fixed as Fixed
use Rattle.fixed.specs.Abs.{abs_neg, minus_is}
use Rattle.fixed.specs.Machine.{sfits_abs, back}
use Rattle.fixed.specs.Bounds.{abs_size_reciprocal}
use Rattle.reciprocal.proofs.signed_reciprocal.Goals as goal
use Rattle.reciprocal.proofs.signed_reciprocal.Goals.{After-hi, Start}

module _ (c : goal.After-hi) where
  abbrev s : goal.Start
  s = c.before.before

  abbrev n : ℤ
  n = s.args.n

  abbrev q : ℤ
  q = Fixed.size_reciprocal n

  q_is : to_z w64 (of_z w64 c.before.size_reciprocal-q.result) ≡ q
  q_is = back w64 c.before.size_reciprocal-q.result c.before.size_reciprocal-q.type_inv ∙ simp (to_z-of_z w64 _ s.ranges.n) at c.before.size_reciprocal-q.ensures

  h_is : to_z w16 (of_z w16 c.hi.result) ≡ Fixed.hi n
  h_is = back w16 c.hi.result c.hi.type_inv ∙ simp (to_z-of_z w64 _ s.ranges.n) at c.hi.ensures

  minus_fits : SFits w64 (neg_ℤ q)
  minus_fits = sfits_abs w64 _ (omega (arith, abs_neg q, abs_size_reciprocal n))

pub overflow_sub-q : goal.overflow_sub-q
overflow_sub-q c = let k = c.before in simp (q_is k, minus_is (q k)) (minus_fits k)

pub returns-then-hi-lt0 : goal.returns-then-hi-lt0
unfolding Fixed.signed_reciprocal
returns-then-hi-lt0 c =
    let k = c.before.before in
    let t : lt_z (Fixed.hi (n k)) (pos 0) ≡ true = simp (h_is k) at c.before.if-hi-lt0.true in
    let p : to_z w64 (of_z w64 c.acc.result) ≡ Fixed.acc (neg_ℤ (q k)) = back w64 c.acc.result c.acc.type_inv ∙ simp (q_is k, minus_is (q k), to_z-of_z w64 _ (minus_fits k)) at c.acc.ensures in
    simp (p, t)

pub returns-else-hi-lt0 : goal.returns-else-hi-lt0
unfolding Fixed.signed_reciprocal
returns-else-hi-lt0 c =
    let k = c.before in
    let t : lt_z (Fixed.hi (n k)) (pos 0) ≡ false = simp (h_is k) at c.if-hi-lt0.false in
    simp (q_is k, t)
