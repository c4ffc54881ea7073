-- Four times the lag and three times the one before, both at 2 ^ 14.
use native.Mathlib.Omega.{arith}
use mathlib.Core.Path.{◌≡◌, ◌∙◌, ap, sym}
use lib.IntN.{ℤ, pos, neg_ℤ, ◌-ℤ◌, ◌*ℤ◌}
use lib.Signed.{lt_z}
use mir.Syntax.{w16, w64}
use mir.Val.{to_z, of_z}
use mir.ValLaws.{to_z-of_z}
use Rattle.fixed.specs.Abs.{minus_is}
use Rattle.fixed.specs.Integers.{mul_mul}
use Rattle.fixed.specs.Machine.{back, widens, widened}
use Rattle.excitation.specs.Excitation as Excitation
use Rattle.excitation.proofs.Compared.{compared, word_le, word_fits, minus_fits}
use Rattle.excitation.proofs.above_floor.Goals as goal
use Rattle.excitation.proofs.above_floor.Goals.{Start}

module _ (c : goal.Start) where
  abbrev x : ℤ
  x = c.args.lag

  abbrev y : ℤ
  y = c.args.previous_lag

  lag_is : to_z w64 (of_z w64 (to_z w64 (of_z w64 (to_z w16 (of_z w16 x))) *ℤ pos 65536)) ≡ x *ℤ pos 65536
  lag_is = simp (widened tt c.ranges.lag) (to_z-of_z w64 _ (word_fits x 65536 c.ranges.lag (omega arith)))

  floor_is : pos 0 -ℤ to_z w64 (of_z w64 (to_z w64 (of_z w64 (to_z w16 (of_z w16 y))) *ℤ pos 49152)) ≡ neg_ℤ (y *ℤ pos 49152)
  floor_is = simp (widened tt c.ranges.previous_lag, to_z-of_z w64 _ (word_fits y 49152 c.ranges.previous_lag (omega arith))) (minus_is (y *ℤ pos 49152))

pub overflow_cast-lag : goal.overflow_cast-lag
overflow_cast-lag c = widens tt c.ranges.lag

pub overflow_mul-lag : goal.overflow_mul-lag
overflow_mul-lag c = simp (widened tt c.ranges.lag) (word_fits (x c) 65536 c.ranges.lag (omega arith))

pub overflow_cast-previous_lag : goal.overflow_cast-previous_lag
overflow_cast-previous_lag c = widens tt c.ranges.previous_lag

pub overflow_mul-previous_lag : goal.overflow_mul-previous_lag
overflow_mul-previous_lag c = simp (widened tt c.ranges.previous_lag) (word_fits (y c) 49152 c.ranges.previous_lag (omega arith))

pub overflow_sub-previous_lag : goal.overflow_sub-previous_lag
overflow_sub-previous_lag c = rw (floor_is c) (minus_fits (y c) 49152 c.ranges.previous_lag (omega arith))

pub returns : goal.returns
unfolding Excitation.above_floor
returns c =
    let b = c.before in
    let f = b.ranges.lag in
    let g = b.ranges.previous_lag in
    ap (lt_z (pos 0))
    (back w64 c.fold.result c.fold.type_inv ∙ simp (lag_is b, floor_is b, to_z-of_z w64 _ (minus_fits (y b) 49152 g (omega arith))) at c.fold.ensures)
    ∙ compared (x b *ℤ pos 65536) (y b *ℤ pos 49152) (x b *ℤ pos 4) (y b *ℤ pos 3) 16384 (omega arith) (sym (mul_mul (x b) (pos 4) (pos 16384))) (sym (mul_mul (y b) (pos 3) (pos 16384)))
    (omega (arith, word_le (x b) 65536 f, word_le (y b) 49152 g))
