-- The mask reads 16 bits without their sign; the product has 32 bits, twice it 33.
use native.Mathlib.Omega.{arith}
use mathlib.Core.Path.{refl, ◌≡◌}
use lib.IntN.{ℤ, pos, ◌*ℤ◌, nat_abs}
use Prim.Native.Nat.{◌≤◌}
use mir.Syntax.{w16, w64}
use mir.Val.{SFits, to_z, of_z}
use mir.ValLaws.{to_z-of_z}
use mir.Facts.{sfits_widen}
use lib.Bits.{bit_and}
use Rattle.fixed.specs.Fixed.{residue}
use Rattle.fixed.specs.Fixed as Fixed
use Rattle.fixed.specs.Abs.{abs_mul_le}
use Rattle.fixed.specs.Wrap.{residue_lt}
use Rattle.fixed.specs.Machine.{mask, abs_sfits, sfits_abs}
use Rattle.fixed.proofs.mul_us.Goals as goal
use Rattle.fixed.proofs.mul_us.Goals.{Start}

module _ (c : goal.Start) where
  abbrev x : ℤ
  x = c.args.x

  abbrev y : ℤ
  y = c.args.y

  abbrev u : ℤ
  u = pos (residue 65536 x)

  xf : SFits w64 x
  xf = sfits_widen tt c.ranges.x

  yf : SFits w64 y
  yf = sfits_widen tt c.ranges.y

  le : nat_abs (u *ℤ y) ≤ 2147483648
  le = abs_mul_le u y 65536 32768 (omega (arith, residue_lt 65536 x (omega arith))) (abs_sfits w16 y c.ranges.y)

  uf : to_z w64 (bit_and (of_z w64 x) 65535) ≡ u
  uf = mask 16 48 x refl (omega arith) xf

  pf : SFits w64 (u *ℤ y)
  pf = sfits_abs w64 _ (omega (arith, le))

  qf : SFits w64 (u *ℤ y *ℤ pos 2)
  qf = sfits_abs w64 _ (omega (arith, abs_mul_le (u *ℤ y) (pos 2) 2147483648 2 le (omega arith)))

pub overflow_cast-result : goal.overflow_cast-result
overflow_cast-result c = let f = c.ranges.x in simp to_z-of_z (xf c)

pub overflow_cast-result-2 : goal.overflow_cast-result-2
overflow_cast-result-2 c = let f = c.ranges.y in simp to_z-of_z (yf c)

pub overflow_mul-result : goal.overflow_mul-result
overflow_mul-result c =
    let f = c.ranges.x in
    let g = c.ranges.y in
    let h = yf c in
    simp (to_z-of_z, uf c) (pf c)

pub overflow_mul-result-2 : goal.overflow_mul-result-2
overflow_mul-result-2 c =
    let f = c.ranges.x in
    let g = c.ranges.y in
    let h = yf c in
    let i = pf c in
    simp (to_z-of_z, uf c) (qf c)

pub returns : goal.returns
unfolding Fixed.mul_us
returns c =
    let f = c.ranges.x in
    let g = c.ranges.y in
    let h = yf c in
    let i = pf c in
    let j = qf c in
    simp (to_z-of_z, uf c)
