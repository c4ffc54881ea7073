-- The numbers as they are, the gain that is left as it was clamped, and the count as the premise says.
use mir.ValLaws.{to_z-of_z}
use borrow.Author.Rules.{rules}
use mathlib.Core.Path.{◌≡◌, ◌∙◌}
use mir.Syntax.{w16}
use mir.Val.{to_z, of_z}
use Rattle.fixed.specs.Machine.{back}
use Rattle.half.specs.Core as Spec
use Rattle.shaping.proofs.traced.Goals as goal

pub returns : goal.returns
unfolding Spec.traced
returns c =
    let g = c.args.g in
    let p = to_z-of_z w16 g.pitch_gain (search rules) in
    let k : to_z w16 (of_z w16 c.clamped.result) ≡ Spec.clamped g.pitch_gain = back w16 c.clamped.result c.clamped.type_inv ∙ simp p at c.clamped.ensures in
    simp (c.requires, p, to_z-of_z w16 g.code_gain (search rules), k)
