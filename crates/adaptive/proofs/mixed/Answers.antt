-- The two sums in the accumulator are one wrap of the whole.
use native.Mathlib.Omega.{arith}
use mathlib.Core.Path.{◌≡◌, ◌∙◌}
use lib.IntN.{ℤ, pos, ◌+ℤ◌, ◌*ℤ◌}
use mir.Syntax.{w16, w64}
use mir.Val.{SFits, to_z, of_z}
use mir.ValLaws.{to_z-of_z}
use Rattle.fixed.specs.Fixed as Fixed
use Rattle.fixed.specs.Abs.{abs_mul_le}
use Rattle.fixed.specs.Wrap.{wrap_add}
use Rattle.fixed.specs.Machine.{back, abs_sfits, sfits_abs}
use Rattle.pitch.specs.Pitch as Pitch
use Rattle.adaptive.proofs.mixed.Goals as goal

pub returns : goal.returns
unfolding Pitch.mixed Fixed.fold
returns c =
    let a = c.args in
    let x = a.x in
    let s = c.shift-scaled in
    let v : ℤ = Fixed.shift (Fixed.mul32x16 (Fixed.acc a.value) a.gain) (pos 1) in
    let x_fits : SFits w64 (x *ℤ pos 65536) = sfits_abs w64 _ (omega (arith, abs_mul_le x (pos 65536) 32768 65536 (abs_sfits w16 x c.ranges.x) (omega arith))) in
    let s_is : to_z w64 (of_z w64 s.result) ≡ v =
    cc (to_z-of_z w64 _ c.ranges.value, to_z-of_z w16 _ c.ranges.gain, back w64 c.acc.result c.acc.type_inv, back w64 c.mul32x16.result c.mul32x16.type_inv, back w64 s.result s.type_inv, c.acc.ensures, c.mul32x16.ensures, s.ensures) in
    let x_is : to_z w64 (of_z w64 c.from.result) ≡ x = back w64 c.from.result c.from.type_inv ∙ c.from.ensures ∙ to_z-of_z w16 x c.ranges.x in
    let f_is : to_z w64 (of_z w64 c.fold.result) ≡ Fixed.acc (v +ℤ x *ℤ pos 65536) = back w64 c.fold.result c.fold.type_inv ∙ simp (s_is, x_is, to_z-of_z w64 _ x_fits) at c.fold.ensures in
    let g_is : to_z w64 (of_z w64 c.fold-2.result) ≡ Fixed.acc (v +ℤ x *ℤ pos 65536 +ℤ pos 32768) = back w64 c.fold-2.result c.fold-2.type_inv ∙ simp f_is at c.fold-2.ensures ∙ wrap_add 40 (v +ℤ x *ℤ pos 65536) (pos 32768) in
    back w16 c.hi.result c.hi.type_inv ∙ simp g_is at c.hi.ensures
