-- Each call's result as it is defined.
use mir.Syntax.{w16, w32, w64}
use mir.ValLaws.{to_z-of_z}
use Rattle.fixed.specs.Machine.{back}
use Rattle.reflection.specs.Reflection as Levinson
use Rattle.levinson.proofs.updated.Goals as goal

pub returns : goal.returns
unfolding Levinson.updated
returns c =
    let k = c.before.before in
    let f = k.before.before.ranges in
    cc
    (to_z-of_z w16 _ f.kv, to_z-of_z w16 _ f.inverse, to_z-of_z w32 _ f.scale, to_z-of_z w16 _ f.x, to_z-of_z w16 _ f.y, back w64 k.before.difference.result k.before.difference.type_inv, back w64 k.mul32x16.result k.mul32x16.type_inv, back w64 c.before.shift.result c.before.shift.type_inv, back w16 c.hi.result c.hi.type_inv)
