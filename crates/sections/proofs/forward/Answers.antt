use mathlib.Core.Path.{◌≡◌, ◌∙◌}
use mir.Syntax.{w16, w64}
use mir.ValLaws.{to_z-of_z}
use Rattle.fixed.specs.Fixed as Fixed
use Rattle.fixed.specs.Machine.{back}
use Rattle.sections.proofs.forward.Goals as goal

pub returns : goal.returns
returns c =
    let f = c.before.before.ranges in
    let m = c.before.mul in
    let e : m.result ≡ Fixed.mul c.before.before.args.x c.before.before.args.tap = simp (to_z-of_z w16 _ f.x, to_z-of_z w16 _ f.tap) at m.ensures in
    back w64 c.fold.result c.fold.type_inv ∙ simp (to_z-of_z w64 _ f.sum, back w64 m.result m.type_inv) at c.fold.ensures ∙ simp e
