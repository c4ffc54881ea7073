-- The buffer is, by turn n, rewritten in n places. The last sample that a turn reads with a tap that is not 0 is 21 + n, which is before its own place, 21 + first + n.
use borrow.Author.Rules.{rules}
use native.Mathlib.Omega.{arith}
use mathlib.Core.Path.{◌≡◌, refl, ◌∙◌, ap}
use Prim.Native.Nat.{ℕ, ◌+◌}
use lib.IntN.{ℤ, pos}
use lib.ListN.{get_or, length-set}
use mir.Syntax.{w16, w64}
use mir.Val.{to_z, of_z}
use mir.ValLaws.{to_z-of_z}
use Rattle.sequence.specs.Rewritten.{rewritten, rewritten_again, rewritten_end}
use Rattle.fixed.specs.Machine.{back}
use Rattle.pitch.specs.Pitch as Pitch
use Rattle.adaptive.specs.Window as Window
use Rattle.adaptive.proofs.PhaseTaps.sharpen_from.Goals as goal

pub loop-n-init : goal.loop-n-init
unfolding rewritten
loop-n-init c = (omega arith, refl, refl)

pub loop-n-preserved : goal.loop-n-preserved
unfolding Window.sharpened
loop-n-preserved c =
    let a = c.args in
    let n = c.loop-n.n in
    let buf = c.loop-n.buf in
    let i = c.interpolated_sample-value in
    let place : ℕ = 21 + a.first + n in
    let gain : ℤ = to_z w16 (of_z w16 a.gain) in
    let y : ℤ = to_z w16 (of_z w16 c.mixed-y.result) in
    let e : y ≡ Window.sharpened a.self.now.window a.first gain n buf =
    back w16 c.mixed-y.result c.mixed-y.type_inv
    ∙ simp (back w64 i.result i.type_inv, back w16 (get_or buf place (pos 0)) (search rules)) at c.mixed-y.ensures
    ∙ ap (λ (z : ℤ). Pitch.mixed z gain (get_or buf place (pos 0))) i.ensures in
    (omega arith, length-set buf place y ∙ c.loop-n.invariant.1, rewritten_again _ (21 + a.first) a.buf.now n buf y c.loop-n.invariant.2 e)

pub returns : goal.returns
returns c =
    rewritten_end _ (21 + c.args.first) c.args.buf.now c.loop-n.invariant.0 (omega arith) c.loop-n.invariant.2
    ∙ simp (to_z-of_z w16 _ c.ranges.gain)
