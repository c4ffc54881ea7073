-- The loop's sum is the total of the terms so far, which are those after the first.
use borrow.Author.Rules.{rules}
use native.Mathlib.Omega.{arith}
use mathlib.Core.Path.{◌≡◌, refl, ◌∙◌, ap}
use mathlib.Core.List.{List}
use lib.IntN.{ℤ, pos, neg_ℤ, ◌-ℤ◌}
use lib.ListN.{get_or}
use Prim.Native.Nat.{ℕ, ◌-◌, ◌+◌}
use mir.Syntax.{w16, w64}
use mir.Val.{SFits, to_z, of_z}
use mir.ValLaws.{to_z-of_z}
use Rattle.sequence.specs.Total.{total, total_more}
use Rattle.fixed.specs.Fixed as Fixed
use Rattle.fixed.specs.Abs.{abs_neg, minus_is}
use Rattle.fixed.specs.Machine.{sfits_abs, back}
use Rattle.fixed.specs.Bounds.{abs_mul16}
use Rattle.synthesis_sum.proofs.older.Invariants.{later}
use Rattle.synthesis_sum.proofs.older.Goals as goal
use Rattle.synthesis_sum.proofs.older.Goals.{After-mul, At-loop-k}

pub loop-k-init : goal.loop-k-init
unfolding total
loop-k-init c = (omega arith, refl)

-- after the product: its negation is the term, and fits
module _ (c : goal.After-mul) where
  abbrev l : goal.At-loop-k
  l = c.before.before.before.before

  abbrev k : ℕ
  k = l.loop-k.k

  abbrev cs : List ℤ
  cs = l.before.args.a.now

  abbrev hs : List ℤ
  hs = l.before.args.history.now

  x_fits : SFits w16 (get_or cs (k + 1 + 1) (pos 0))
  x_fits = search rules

  y_fits : SFits w16 (get_or hs (9 - (k + 1)) (pos 0))
  y_fits = search rules

  product : to_z w64 (of_z w64 c.mul.result) ≡ Fixed.mul (get_or cs (k + 1 + 1) (pos 0)) (get_or hs (9 - (k + 1)) (pos 0))
  product = back w64 c.mul.result c.mul.type_inv ∙ simp (to_z-of_z w16 _ x_fits, to_z-of_z w16 _ y_fits) at c.mul.ensures

  minus : pos 0 -ℤ to_z w64 (of_z w64 c.mul.result) ≡ later cs hs k
  minus = minus_is (to_z w64 (of_z w64 c.mul.result)) ∙ ap neg_ℤ product

  fits : SFits w64 (later cs hs k)
  fits =
      let m : ℤ = Fixed.mul (get_or cs (k + 1 + 1) (pos 0)) (get_or hs (9 - (k + 1)) (pos 0)) in
      sfits_abs w64 _ (omega (arith, abs_neg m, abs_mul16 (get_or cs (k + 1 + 1) (pos 0)) (get_or hs (9 - (k + 1)) (pos 0)) x_fits y_fits))

pub overflow_sub-mul : goal.overflow_sub-mul
overflow_sub-mul c = rw (minus c) (fits c)

pub loop-k-preserved : goal.loop-k-preserved
loop-k-preserved c =
    let b = c.before in
    let e = total_more Fixed.fold (pos 0) (later (cs b) (hs b)) (k b) in (
      omega arith,
      rw e (back w64 c.fold-sum.result c.fold-sum.type_inv ∙ simp (minus b, to_z-of_z w64 _ (fits b), c.loop-k.invariant.1) at c.fold-sum.ensures),
    )

pub returns : goal.returns
returns c =
    let e : c.loop-k.k ≡ 9 = omega arith in
    rw e at c.loop-k.invariant.1
