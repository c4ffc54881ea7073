-- One call after the other; the last output's term may come in at the end.
use mathlib.Core.Path.{◌∙◌, sym}
use lib.IntN.{pos, ◌+ℤ◌, ◌*ℤ◌}
use mir.Syntax.{w16, w64}
use mir.ValLaws.{to_z-of_z}
use Rattle.fixed.specs.Machine.{back}
use Rattle.synth.specs.Synth as Synth
use Rattle.synthesis_sum.proofs.Late.{late_prediction}
use Rattle.synthesis_sum.proofs.sum.Goals as goal

pub returns : goal.returns
unfolding Synth.sum
returns c =
    let l = c.before.last in
    let k = c.before.before.known-before in
    let b = c.before.before.before in
    let k_is = back w64 k.result k.type_inv ∙ simp (to_z-of_z w16 _ b.ranges.x) at k.ensures in
    let l_is = back w64 l.result l.type_inv ∙ l.ensures in
    back w64 c.fold.result c.fold.type_inv
    ∙ simp (k_is, l_is) at c.fold.ensures
    ∙ sym (late_prediction b.args.a.now b.args.history.now (b.args.x *ℤ pos 65536 +ℤ pos 32768))
