-- The complement of a negative number is as far from 0 as the number is from -1.
use native.Mathlib.Omega.{arith}
use mathlib.Core.Bool.{true}
use mathlib.Core.Path.{◌≡◌, ◌∙◌, ap}
use lib.IntN.{ℤ, pos, negsuc, nat_abs}
use lib.Signed.{lt_z, mag}
use borrow.Author.Tests.{ltb-true}
use Prim.Native.Nat.{suc, ◌<◌, ◌-◌}
use mir.Syntax.{w64}
use mir.Val.{SFits, to_z, of_z}
use mir.ValLaws.{to_z-of_z, to_z_pos}
use Rattle.fixed.specs.Abs.{nonneg_is}
use Rattle.fixed.proofs.magnitude.Goals as goal
use Rattle.fixed.proofs.magnitude.Goals.{Else-v-lt0, Then-v-lt0}

flipped : (z : ℤ) → SFits w64 z → lt_z z (pos 0) ≡ true → to_z w64 (18446744073709551615 - of_z w64 z) ≡ pos (mag z)
flipped (pos n) f t = let h : n < 0 = ltb-true n 0 t in absurd (omega arith)
flipped (negsuc n) f t =
    let e : 18446744073709551615 - (18446744073709551616 - suc n) ≡ n = omega (arith, f.sfits) in
    ap (to_z w64) e ∙ to_z_pos w64 n f.sfits

-- the test, of v itself, and what is cast
module _ (c : goal.Then-v-lt0) where
  flips : to_z w64 (18446744073709551615 - of_z w64 c.before.args.v) ≡ pos (mag c.before.args.v)
  flips = let f = c.before.ranges.v in flipped c.before.args.v f (simp to_z-of_z at c.if-v-lt0.true)

module _ (c : goal.Else-v-lt0) where
  keeps : to_z w64 (of_z w64 c.before.args.v) ≡ pos (mag c.before.args.v)
  keeps = let f = c.before.ranges.v in to_z-of_z w64 c.before.args.v f ∙ nonneg_is c.before.args.v (simp to_z-of_z at c.if-v-lt0.false)

pub overflow_cast-result : goal.overflow_cast-result
overflow_cast-result c = rw (flips c) (tt, record { fits = omega (arith, c.before.ranges.v.sfits) })

pub overflow_cast-result-else-v-lt0 : goal.overflow_cast-result-else-v-lt0
overflow_cast-result-else-v-lt0 c = rw (keeps c) (tt, record { fits = omega (arith, c.before.ranges.v.sfits) })

pub returns-then-v-lt0 : goal.returns-then-v-lt0
returns-then-v-lt0 c = ap nat_abs (flips c)

pub returns-else-v-lt0 : goal.returns-else-v-lt0
returns-else-v-lt0 c = ap nat_abs (keeps c)
