-- The product of two 16-bit numbers has 31 bits, twice it 32.
use native.Mathlib.Omega.{arith}
use lib.IntN.{ℤ, pos, ◌*ℤ◌, nat_abs}
use Prim.Native.Nat.{◌≤◌}
use mir.Syntax.{w16, w64}
use mir.Val.{SFits}
use mir.ValLaws.{to_z-of_z}
use Rattle.fixed.specs.Fixed as Fixed
use Rattle.fixed.specs.Abs.{abs_mul_le}
use Rattle.fixed.specs.Machine.{abs_sfits, sfits_abs, widens, widened}
use Rattle.fixed.proofs.mul.Goals as goal
use Rattle.fixed.proofs.mul.Goals.{Start}

-- the product and twice the product fit
module _ (c : goal.Start) where
  abbrev x : ℤ
  x = c.args.x

  abbrev y : ℤ
  y = c.args.y

  le : nat_abs (x *ℤ y) ≤ 1073741824
  le = abs_mul_le x y 32768 32768 (abs_sfits w16 x c.ranges.x) (abs_sfits w16 y c.ranges.y)

  pf : SFits w64 (x *ℤ y)
  pf = sfits_abs w64 _ (omega (arith, le))

  qf : SFits w64 (x *ℤ y *ℤ pos 2)
  qf = sfits_abs w64 _ (omega (arith, abs_mul_le (x *ℤ y) (pos 2) 1073741824 2 le (omega arith)))

pub overflow_cast-result : goal.overflow_cast-result
overflow_cast-result c = widens tt c.ranges.x

pub overflow_cast-result-2 : goal.overflow_cast-result-2
overflow_cast-result-2 c = widens tt c.ranges.y

pub overflow_mul-result : goal.overflow_mul-result
overflow_mul-result c = simp (widened tt c.ranges.x, widened tt c.ranges.y) (pf c)

pub overflow_mul-result-2 : goal.overflow_mul-result-2
overflow_mul-result-2 c = simp (widened tt c.ranges.x, widened tt c.ranges.y, to_z-of_z w64 _ (pf c)) (qf c)

pub returns : goal.returns
unfolding Fixed.mul
returns c = simp (widened tt c.ranges.x, widened tt c.ranges.y, to_z-of_z w64 _ (pf c), to_z-of_z w64 _ (qf c))
