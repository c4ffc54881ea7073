-- Minus a 16-bit number times 1024 is within 64 bits.
use native.Mathlib.Omega.{arith}
use mathlib.Core.Path.{◌≡◌, ◌∙◌}
use lib.IntN.{ℤ, pos, neg_ℤ, nat_abs, ◌*ℤ◌}
use Prim.Native.Nat.{◌≤◌}
use mir.Syntax.{w16, w32, w64}
use mir.Val.{SFits, to_z, of_z}
use mir.ValLaws.{to_z-of_z}
use Rattle.fixed.specs.Fixed as Fixed
use Rattle.fixed.specs.Abs.{abs_neg, minus_is, abs_mul_le}
use Rattle.fixed.specs.Machine.{back, widens, widened, sfits_abs, abs_sfits}
use Rattle.lsp.specs.Lsp as Lsp
use Rattle.lsp.proofs.first_polynomial.Goals as goal
use Rattle.lsp.proofs.first_polynomial.Goals.{Start}

module _ (c : goal.Start) where
  abbrev x : ℤ
  x = c.args.x *ℤ pos 1024

  le : nat_abs x ≤ 33554432
  le = abs_mul_le c.args.x (pos 1024) 32768 1024 (abs_sfits w16 c.args.x c.ranges.x) (omega arith)

  fits : SFits w64 x
  fits = sfits_abs w64 _ (omega (arith, le))

  minus_fits : SFits w64 (neg_ℤ x)
  minus_fits = sfits_abs w64 _ (omega (arith, abs_neg x, le))

pub overflow_cast-x : goal.overflow_cast-x
overflow_cast-x c = widens tt c.ranges.x

pub overflow_mul-x : goal.overflow_mul-x
overflow_mul-x c = simp (widened tt c.ranges.x) (fits c)

pub overflow_sub-x : goal.overflow_sub-x
overflow_sub-x c = simp (widened tt c.ranges.x, to_z-of_z w64 _ (fits c), minus_is (x c)) (minus_fits c)

pub returns : goal.returns
unfolding Lsp.first_polynomial
returns c =
    let s = c.before in
    let e : to_z w32 (of_z w32 c.stored.result) ≡ Fixed.trunc32 (neg_ℤ (x s)) = back w32 c.stored.result c.stored.type_inv ∙ simp (widened tt s.ranges.x, to_z-of_z w64 _ (fits s), minus_is (x s), to_z-of_z w64 _ (minus_fits s)) at c.stored.ensures in
    simp e
