-- x and 2048, both at 2 ^ 19.
use native.Mathlib.Omega.{arith}
use mathlib.Core.Path.{◌≡◌, refl, ◌∙◌, ap}
use lib.IntN.{ℤ, pos, negsuc, ◌*ℤ◌}
use lib.Signed.{lt_z}
use mir.Syntax.{w64}
use mir.ValLaws.{to_z-of_z}
use Rattle.fixed.specs.Fixed as Fixed
use Rattle.fixed.specs.Machine.{back, widens, widened}
use Rattle.excitation.specs.Excitation as Excitation
use Rattle.excitation.proofs.Compared.{compared, word_le, word_fits, word_shift}
use Rattle.excitation.proofs.peaky_spectrum.Goals as goal

pub overflow_cast-reflection : goal.overflow_cast-reflection
overflow_cast-reflection c = widens tt c.ranges.reflection

pub overflow_mul-reflection : goal.overflow_mul-reflection
overflow_mul-reflection c = simp (widened tt c.ranges.reflection) (word_fits c.args.reflection 65536 c.ranges.reflection (omega arith))

pub returns : goal.returns
unfolding Excitation.peaky_spectrum
returns c =
    let x = c.before.before.args.reflection in
    let f = c.before.before.ranges.reflection in
    let k = c.before.shift in
    let s : k.result ≡ x *ℤ pos 524288 = simp (widened tt f, to_z-of_z w64 _ (word_fits x 65536 f (omega arith))) at k.ensures ∙ word_shift x 65536 f 3 (omega arith) (omega arith) in
    ap (lt_z (pos 0))
    (back w64 c.fold.result c.fold.type_inv ∙ simp (back w64 k.result k.type_inv) at c.fold.ensures ∙ ap (λ (z : ℤ). Fixed.fold z (negsuc 1073741823)) s)
    ∙ compared (x *ℤ pos 524288) (pos 1073741824) x (pos 2048) 524288 (omega arith) refl refl (omega (arith, word_le x 524288 f))
