-- The sum of two 16-bit numbers is one of 64 bits.
use native.Mathlib.Omega.{arith}
use mathlib.Core.Path.{◌≡◌, ◌∙◌}
use Prim.Native.Nat.{◌<◌}
use lib.IntN.{ℤ, ◌+ℤ◌, ◌-ℤ◌}
use lib.Signed.{mag}
use mir.Syntax.{w16, w64}
use mir.Val.{SFits, to_z, of_z}
use mir.ValLaws.{to_z-of_z}
use Rattle.fixed.specs.Abs.{abs_add, abs_sub}
use Rattle.fixed.specs.Machine.{back, sfits_abs, abs_sfits}
use Rattle.code_index.specs.Codebook as Codebook
use Rattle.codebook.proofs.sum.Goals as goal

-- what a widened number reads as
wide : (z r : ℤ) → SFits w16 z → mag r < 9223372036854775808 → r ≡ to_z w16 (of_z w16 z) → to_z w64 (of_z w64 r) ≡ z
wide z r f t e = back w64 r t ∙ e ∙ to_z-of_z w16 z f

sum_fits : (x y : ℤ) → SFits w16 x → SFits w16 y → SFits w64 (x +ℤ y)
sum_fits x y p q = sfits_abs w64 _ (omega (arith, abs_add x y, abs_sfits w16 x p, abs_sfits w16 y q))

difference_fits : (x y : ℤ) → SFits w16 x → SFits w16 y → SFits w64 (x -ℤ y)
difference_fits x y p q = sfits_abs w64 _ (omega (arith, abs_sub x y, abs_sfits w16 x p, abs_sfits w16 y q))

pub returns-then-add : goal.returns-then-add
unfolding Codebook.sum
returns-then-add c =
    let x = wide c.args.x c.from.result c.ranges.x c.from.type_inv c.from.ensures in
    let y = wide c.args.y c.from-then-add.result c.ranges.y c.from-then-add.type_inv c.from-then-add.ensures in
    back w16 c.low.result c.low.type_inv
    ∙ simp (x, y, to_z-of_z w64 _ (sum_fits c.args.x c.args.y c.ranges.x c.ranges.y)) at c.low.ensures
    ∙ simp c.if-add.true

pub returns-else-add : goal.returns-else-add
unfolding Codebook.sum
returns-else-add c =
    let x = wide c.args.x c.from-else-add.result c.ranges.x c.from-else-add.type_inv c.from-else-add.ensures in
    let y = wide c.args.y c.from-else-add-2.result c.ranges.y c.from-else-add-2.type_inv c.from-else-add-2.ensures in
    back w16 c.low-else-add.result c.low-else-add.type_inv
    ∙ simp (x, y, to_z-of_z w64 _ (difference_fits c.args.x c.args.y c.ranges.x c.ranges.y)) at c.low-else-add.ensures
    ∙ simp c.if-add.false
