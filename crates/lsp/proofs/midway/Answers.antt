-- Half of a number of 17 bits has 16.
use native.Mathlib.Omega.{arith}
use lib.IntN.{ℤ, ◌+ℤ◌}
use lib.Signed.{mag, shr_z}
use Prim.Native.Nat.{◌<◌}
use mir.Syntax.{w16, w64}
use mir.Val.{SFits}
use mir.ValLaws.{to_z-of_z}
use Rattle.fixed.specs.Abs.{mag_shr_is}
use Rattle.fixed.specs.Machine.{widens, widened, shr_sfits}
use Rattle.lsp.specs.Lsp as Lsp
use Rattle.lsp.proofs.Sizes.{mag_add}
use Rattle.lsp.proofs.midway.Goals as goal
use Rattle.lsp.proofs.midway.Goals.{Start}

module _ (c : goal.Start) where
  abbrev x : ℤ
  x = c.args.x

  abbrev y : ℤ
  y = c.args.y

  le : mag (x +ℤ y) < 65536
  le = omega (arith, mag_add x y, c.ranges.x.sfits, c.ranges.y.sfits)

  sum_fits : SFits w64 (x +ℤ y)
  sum_fits = record { sfits = omega (arith, le) }

  half_fits_lem : SFits w16 (shr_z (x +ℤ y) 2)
  half_fits_lem = record { sfits = omega (arith, mag_shr_is (x +ℤ y) 2, le) }

pub overflow_cast-result : goal.overflow_cast-result
overflow_cast-result c = widens tt c.ranges.x

pub overflow_cast-result-2 : goal.overflow_cast-result-2
overflow_cast-result-2 c = widens tt c.ranges.y

pub overflow_add-result : goal.overflow_add-result
overflow_add-result c = simp (widened tt c.ranges.x, widened tt c.ranges.y) (sum_fits c)

pub overflow_cast-result-3 : goal.overflow_cast-result-3
overflow_cast-result-3 c = simp (widened tt c.ranges.x, widened tt c.ranges.y, to_z-of_z w64 _ (sum_fits c), to_z-of_z w64 _ (shr_sfits w64 _ 2 (sum_fits c))) (half_fits_lem c)

pub returns : goal.returns
unfolding Lsp.midway
returns c =
    simp (widened tt c.ranges.x, widened tt c.ranges.y, to_z-of_z w64 _ (sum_fits c), to_z-of_z w64 _ (shr_sfits w64 _ 2 (sum_fits c)), to_z-of_z w16 _ (half_fits_lem c))
