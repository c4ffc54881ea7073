-- The plain sum, doubled, comes in at once; or each product does.
use native.Mathlib.Omega.{arith}
use mathlib.Core.Path.{◌≡◌, ◌∙◌, ap}
use lib.IntN.{ℤ, pos, ◌*ℤ◌}
use lib.ListN.{length}
use mir.Syntax.{w32, w64}
use mir.Val.{SFits, to_z, of_z}
use mir.ValLaws.{to_z-of_z}
use Rattle.fixed.specs.Fixed as Fixed
use Rattle.fixed.specs.Abs.{abs_mul_le}
use Rattle.fixed.specs.Machine.{back, widens, widened, sfits_abs, abs_sfits}
use Rattle.products.specs.PlainSums.{sum_acc}
use Rattle.products.specs.Runs.{term, together}
use Rattle.products.proofs.fold_products.Goals as goal
use Rattle.products.proofs.fold_products.Goals.{After-plain}

pub plain-requires : goal.plain-requires
plain-requires c = (c.before.requires.0, c.before.requires.2 c.if-small.true)

-- a 32-bit number doubled in 64
module _ (c : goal.After-plain) where
  abbrev z : ℤ
  z = c.plain.result

  z_fits : SFits w32 z
  z_fits = record { sfits = c.plain.type_inv }

  doubled : SFits w64 (z *ℤ pos 2)
  doubled = sfits_abs w64 _ (omega (arith, abs_mul_le z (pos 2) 2147483648 2 (abs_sfits w32 z z_fits) (omega arith)))

  reads : to_z w64 (of_z w64 (to_z w64 (of_z w64 (to_z w32 (of_z w32 z))) *ℤ pos 2)) ≡ z *ℤ pos 2
  reads = rw (widened tt z_fits) (to_z-of_z w64 _ doubled)

pub overflow_cast-plain : goal.overflow_cast-plain
overflow_cast-plain c = widens tt (z_fits c)

pub overflow_mul-plain : goal.overflow_mul-plain
overflow_mul-plain c = rw (widened tt (z_fits c)) (doubled c)

pub returns-then-small : goal.returns-then-small
returns-then-small c =
    let p = c.before in
    let s = p.before.before in
    let a = s.args in
    back w64 c.fold.result c.fold.type_inv
    ∙ simp (reads p, to_z-of_z w64 _ s.ranges.sum) at c.fold.ensures
    ∙ ap (λ (x : ℤ). Fixed.fold a.sum (x *ℤ pos 2)) p.plain.ensures
    ∙ together a.sum a.taps.now a.signal.now (length a.signal.now) s.requires.1

pub returns-else-small : goal.returns-else-small
returns-else-small c =
    let s = c.before.before in
    let a = s.args in
    back w64 c.each.result c.each.type_inv
    ∙ simp (to_z-of_z w64 _ s.ranges.sum) at c.each.ensures
    ∙ sum_acc (term a.taps.now a.signal.now) a.sum (length a.signal.now) s.requires.1
