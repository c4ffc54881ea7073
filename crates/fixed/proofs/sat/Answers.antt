-- The library's clamp is the definition's.
use mathlib.Core.Path.{◌∙◌}
use mir.Syntax.{w64}
use mir.ValLaws.{to_z-of_z}
use Rattle.fixed.specs.Clips.{clamped}
use Rattle.fixed.specs.Machine.{back}
use Rattle.fixed.proofs.sat.Goals as goal

pub returns : goal.returns
returns c =
    let f = c.ranges.v in
    back w64 c.clamp.result c.clamp.type_inv ∙ simp to_z-of_z at c.clamp.ensures.value ∙ clamped 2147483647 2147483647 c.args.v
