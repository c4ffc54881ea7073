-- What is done by place n: Mapped of sequence.
use borrow.Author.Rules.{rules}
use native.Mathlib.Omega.{arith}
use mathlib.Core.Path.{◌≡◌, sym, ◌∙◌, ap}
use lib.IntN.{pos}
use lib.ListN.{get_or}
use mir.Syntax.{w16, w32}
use mir.Val.{to_z, of_z}
use Rattle.sequence.specs.Mapped.{mapped_none, mapped_more, mapped_end}
use Rattle.fixed.specs.Machine.{back, abs_sfits}
use Rattle.output_filter.specs.Postfilter.{scaled}
use Rattle.output_filter.specs.Sections.{short, scaled_is}
use Rattle.scaling.proofs.scale.Goals as goal

pub loop-x-init : goal.loop-x-init
loop-x-init c = mapped_none scaled c.args.block.now

pub loop-x-preserved : goal.loop-x-preserved
loop-x-preserved c =
    let x = get_or c.loop-x.block c.loop-x.x-index (pos 0) in
    let e : to_z w16 (of_z w16 c.short.result) ≡ scaled x =
    back w16 c.short.result c.short.type_inv
    ∙ simp (back w32 c.scaled_by.result c.scaled_by.type_inv) at c.short.ensures
    ∙ ap short (simp (back w16 x (search rules)) at c.scaled_by.ensures)
    ∙ sym (scaled_is x (abs_sfits w16 x (record { sfits = (search rules) }))) in
    mapped_more scaled c.args.block.now c.loop-x.block c.loop-x.x-index (pos 0) _ c.loop-x.invariant (omega arith) e

pub returns : goal.returns
returns c = mapped_end scaled c.args.block.now c.loop-x.block c.loop-x.x-index c.loop-x.invariant (omega arith)
