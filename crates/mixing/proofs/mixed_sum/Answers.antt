-- Each call's result as it is defined.
use mathlib.Core.Path.{◌≡◌, ◌∙◌, ap}
use lib.IntN.{ℤ, pos}
use mir.Syntax.{w16, w64}
use mir.ValLaws.{to_z-of_z}
use Rattle.fixed.specs.Fixed as Fixed
use Rattle.fixed.specs.Machine.{back}
use Rattle.half.specs.Core as Spec
use Rattle.mixing.proofs.mixed_sum.Goals as goal
use Rattle.mixing.proofs.mixed_sum.Goals.{After-fold-sum}

-- the sum of the two products
sum_is : (c : goal.After-fold-sum) → c.fold-sum.result ≡ Fixed.fold (Fixed.mul c.args.a c.args.pitch_gain) (Fixed.shift (Fixed.mul c.args.c c.args.code_gain) (pos 1))
sum_is c =
    let m = c.mul in
    let n = c.mul-2 in
    let h = c.shift in
    cc (to_z-of_z w16 _ c.ranges.a, to_z-of_z w16 _ c.ranges.pitch_gain, to_z-of_z w16 _ c.ranges.c, to_z-of_z w16 _ c.ranges.code_gain, back w64 m.result m.type_inv, back w64 n.result n.type_inv, back w64 h.result h.type_inv)

pub returns : goal.returns
unfolding Spec.mixed_sum
returns c =
    let g = c.fold in
    let h = c.shift-2 in
    let f = c.fold-sum in
    let e : g.result ≡ Fixed.fold (Fixed.shift f.result (pos 1)) (pos 32768) = cc (back w64 h.result h.type_inv, back w64 f.result f.type_inv) in
    back w64 g.result g.type_inv ∙ e ∙ ap (λ (z : ℤ). Fixed.fold (Fixed.shift z (pos 1)) (pos 32768)) (sum_is c.before.before)
