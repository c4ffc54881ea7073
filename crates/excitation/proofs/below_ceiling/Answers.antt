-- Three times the lag before and twice the lag, both at 2 ^ 15.
use native.Mathlib.Omega.{arith}
use mathlib.Core.Path.{◌≡◌, ◌∙◌, ap, sym}
use lib.IntN.{ℤ, pos, neg_ℤ, ◌-ℤ◌, ◌*ℤ◌}
use lib.Signed.{lt_z}
use mir.Syntax.{w16, w64}
use mir.Val.{to_z, of_z}
use mir.ValLaws.{to_z-of_z}
use Rattle.fixed.specs.Abs.{minus_is}
use Rattle.fixed.specs.Integers.{mul_mul}
use Rattle.fixed.specs.Machine.{back, widens, widened}
use Rattle.excitation.specs.Excitation as Excitation
use Rattle.excitation.proofs.Compared.{compared, word_le, word_fits, minus_fits, word_shift}
use Rattle.excitation.proofs.below_ceiling.Goals as goal
use Rattle.excitation.proofs.below_ceiling.Goals.{After-shift-ceiling, Start}

module _ (c : goal.Start) where
  abbrev x : ℤ
  x = c.args.lag

  abbrev y : ℤ
  y = c.args.previous_lag

  lag_is : pos 0 -ℤ to_z w64 (of_z w64 (to_z w64 (of_z w64 (to_z w16 (of_z w16 x))) *ℤ pos 65536)) ≡ neg_ℤ (x *ℤ pos 65536)
  lag_is = simp (widened tt c.ranges.lag, to_z-of_z w64 _ (word_fits x 65536 c.ranges.lag (omega arith))) (minus_is (x *ℤ pos 65536))

pub overflow_cast-previous_lag : goal.overflow_cast-previous_lag
overflow_cast-previous_lag c = widens tt c.ranges.previous_lag

pub overflow_mul-previous_lag : goal.overflow_mul-previous_lag
overflow_mul-previous_lag c = simp (widened tt c.ranges.previous_lag) (word_fits (y c) 49152 c.ranges.previous_lag (omega arith))

ceiling_is : (c : goal.After-shift-ceiling) → to_z w64 (of_z w64 c.shift-ceiling.result) ≡ y c.before *ℤ pos 98304
ceiling_is c =
    let g = c.before.ranges.previous_lag in
    back w64 c.shift-ceiling.result c.shift-ceiling.type_inv
    ∙ simp (widened tt g, to_z-of_z w64 _ (word_fits (y c.before) 49152 g (omega arith))) at c.shift-ceiling.ensures
    ∙ word_shift (y c.before) 49152 g 1 (omega arith) (omega arith)

pub overflow_cast-lag : goal.overflow_cast-lag
overflow_cast-lag c = widens tt c.before.ranges.lag

pub overflow_mul-lag : goal.overflow_mul-lag
overflow_mul-lag c = simp (widened tt c.before.ranges.lag) (word_fits (x c.before) 65536 c.before.ranges.lag (omega arith))

pub overflow_sub-lag : goal.overflow_sub-lag
overflow_sub-lag c = rw (lag_is c.before) (minus_fits (x c.before) 65536 c.before.ranges.lag (omega arith))

pub returns : goal.returns
unfolding Excitation.below_ceiling
returns c =
    let b = c.before.before in
    let f = b.ranges.lag in
    let g = b.ranges.previous_lag in
    ap (lt_z (pos 0))
    (back w64 c.fold.result c.fold.type_inv ∙ simp (ceiling_is c.before, lag_is b, to_z-of_z w64 _ (minus_fits (x b) 65536 f (omega arith))) at c.fold.ensures)
    ∙ compared (y b *ℤ pos 98304) (x b *ℤ pos 65536) (y b *ℤ pos 3) (x b *ℤ pos 2) 32768 (omega arith) (sym (mul_mul (y b) (pos 3) (pos 32768))) (sym (mul_mul (x b) (pos 2) (pos 32768)))
    (omega (arith, word_le (y b) 98304 g, word_le (x b) 65536 f))
