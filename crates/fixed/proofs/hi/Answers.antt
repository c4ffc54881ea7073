-- A shift down keeps the range, and `low` does the rest.
use borrow.Author.Rules.{rules}
use mathlib.Core.Path.{◌∙◌}
use mir.Syntax.{w64}
use mir.ValLaws.{to_z-of_z}
use Rattle.fixed.specs.Machine.{shr_sfits}
use Rattle.fixed.proofs.hi.Goals as goal

pub returns : goal.returns
returns c =
    let f = c.before.ranges.v in
    let g = shr_sfits w64 c.before.args.v 65536 f in
    search rules ∙ simp to_z-of_z at c.low.ensures
