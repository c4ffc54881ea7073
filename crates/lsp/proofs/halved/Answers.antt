-- Each call's result as it is defined.
use mir.Syntax.{w16, w64}
use mir.ValLaws.{to_z-of_z}
use Rattle.fixed.specs.Machine.{back}
use Rattle.lsp.specs.Lsp as Lsp
use Rattle.lsp.proofs.halved.Goals as goal

pub returns : goal.returns
unfolding Lsp.halved
returns c =
    let k = c.before.before in
    cc
    (to_z-of_z w64 _ k.before.before.ranges.sum, back w64 k.before.shift.result k.before.shift.type_inv, back w64 k.shift-2.result k.shift-2.type_inv, back w64 c.before.fold.result c.before.fold.type_inv, back w16 c.hi.result c.hi.type_inv)
