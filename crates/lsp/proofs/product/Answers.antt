-- Each call's result as it is defined; twice a product of 32 by 16 bits is within 64.
use native.Mathlib.Omega.{arith}
use mathlib.Core.Path.{◌≡◌, ◌∙◌}
use lib.IntN.{ℤ, pos, ◌*ℤ◌}
use mir.Syntax.{w16, w32, w64}
use mir.Val.{SFits, to_z, of_z}
use mir.ValLaws.{to_z-of_z}
use Rattle.fixed.specs.Fixed as Fixed
use Rattle.fixed.specs.Abs.{abs_mul_le}
use Rattle.fixed.specs.Products.{abs_mul32x16}
use Rattle.fixed.specs.Machine.{back, widens, widened, sfits_abs, abs_sfits}
use Rattle.lsp.specs.Lsp as Lsp
use Rattle.lsp.proofs.product.Goals as goal
use Rattle.lsp.proofs.product.Goals.{After-mul32x16}

pub overflow_cast-x : goal.overflow_cast-x
overflow_cast-x c = widens tt c.ranges.x

pub overflow_cast-y : goal.overflow_cast-y
overflow_cast-y c = widens tt c.ranges.y

module _ (c : goal.After-mul32x16) where
  abbrev m : ℤ
  m = Fixed.mul32x16 c.before.args.y c.before.args.l

  m_is : to_z w64 (of_z w64 c.mul32x16.result) ≡ m
  m_is = back w64 c.mul32x16.result c.mul32x16.type_inv ∙ simp (widened tt c.before.ranges.y, to_z-of_z w16 _ c.before.ranges.l) at c.mul32x16.ensures

  fits : SFits w64 (m *ℤ pos 2)
  fits = sfits_abs w64 _ (omega (arith, abs_mul_le m (pos 2) 2147483648 2 (abs_mul32x16 c.before.args.y c.before.args.l (abs_sfits w16 c.before.args.l c.before.ranges.l)) (omega arith)))

pub overflow_mul-mul32x16 : goal.overflow_mul-mul32x16
overflow_mul-mul32x16 c = rw (m_is c) (fits c)

pub overflow_cast-z : goal.overflow_cast-z
overflow_cast-z c = widens tt c.before.before.ranges.z

pub returns : goal.returns
unfolding Lsp.product
returns c =
    let k = c.before.before.before in
    let s = k.before in
    let f : c.before.before.fold.result ≡ Fixed.fold s.args.x (m k *ℤ pos 2) = simp (widened tt s.ranges.x, m_is k, to_z-of_z w64 _ (fits k)) at c.before.before.fold.ensures in
    cc (back w64 c.before.before.fold.result c.before.before.fold.type_inv, widened tt s.ranges.z, back w64 c.before.fold-2.result c.before.fold-2.type_inv, back w32 c.stored.result c.stored.type_inv)
