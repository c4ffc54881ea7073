-- Twice the gain and 13107, both at 2 ^ 16.
use native.Mathlib.Omega.{arith}
use mathlib.Core.Path.{◌≡◌, refl, ◌∙◌, ap, sym}
use lib.IntN.{ℤ, pos, negsuc, ◌*ℤ◌}
use lib.Signed.{lt_z}
use mir.Syntax.{w64}
use mir.ValLaws.{to_z-of_z}
use Rattle.fixed.specs.Fixed as Fixed
use Rattle.fixed.specs.Integers.{mul_mul}
use Rattle.fixed.specs.Machine.{back, widens, widened}
use Rattle.excitation.specs.Excitation as Excitation
use Rattle.excitation.proofs.Compared.{compared, word_le, word_fits, word_shift}
use Rattle.excitation.proofs.gain_was_strong.Goals as goal

pub overflow_cast-previous_gain : goal.overflow_cast-previous_gain
overflow_cast-previous_gain c = widens tt c.ranges.previous_gain

pub overflow_mul-previous_gain : goal.overflow_mul-previous_gain
overflow_mul-previous_gain c = simp (widened tt c.ranges.previous_gain) (word_fits c.args.previous_gain 65536 c.ranges.previous_gain (omega arith))

pub returns : goal.returns
unfolding Excitation.gain_was_strong
returns c =
    let x = c.before.before.args.previous_gain in
    let f = c.before.before.ranges.previous_gain in
    let k = c.before.shift in
    let s : k.result ≡ x *ℤ pos 131072 = simp (widened tt f, to_z-of_z w64 _ (word_fits x 65536 f (omega arith))) at k.ensures ∙ word_shift x 65536 f 1 (omega arith) (omega arith) in
    ap (lt_z (pos 0))
    (back w64 c.fold.result c.fold.type_inv ∙ simp (back w64 k.result k.type_inv) at c.fold.ensures ∙ ap (λ (z : ℤ). Fixed.fold z (negsuc 858980351)) s)
    ∙ compared (x *ℤ pos 131072) (pos 858980352) (x *ℤ pos 2) (pos 13107) 65536 (omega arith) (sym (mul_mul x (pos 2) (pos 65536))) refl (omega (arith, word_le x 131072 f))
