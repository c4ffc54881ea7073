-- What is written by place n: Written of sequence.
use borrow.Author.Rules.{rules}
use native.Mathlib.Omega.{arith}
use mathlib.Core.List.{map}
use mathlib.Core.Path.{◌≡◌, sym, ◌∙◌}
use lib.IntN.{pos}
use lib.ListN.{length, get_or, length-map}
use mir.Syntax.{w16, w32}
use mir.Val.{to_z, of_z}
use Rattle.sequence.specs.Table.{written_none, written_more, written_end, table_of}
use Rattle.fixed.specs.Machine.{back}
use Rattle.output_filter.specs.Sections.{short, get_or_short}
use Rattle.sections.proofs.shorten.Invariants.{value}
use Rattle.sections.proofs.shorten.Goals as goal

pub loop-n-init : goal.loop-n-init
loop-n-init c = written_none (value c.args.input.now) (length c.args.input.now) c.args.output.now c.requires

pub bounds-output-n : goal.bounds-output-n
bounds-output-n c = let l = c.before.before.before in omega (arith, l.loop-n.invariant.1)

pub loop-n-preserved : goal.loop-n-preserved
loop-n-preserved c =
    let l = c.before.before.before in
    let xs = l.before.args.input.now in
    let n = l.loop-n.n in
    let e : to_z w16 (of_z w16 c.short.result) ≡ short (get_or xs n (pos 0)) =
    back w16 c.short.result c.short.type_inv ∙ simp (back w32 (get_or xs n (pos 0)) (search rules)) at c.short.ensures in
    written_more (value xs) (length xs) l.loop-n.output n _ l.loop-n.invariant (omega arith) e

pub returns : goal.returns
returns c =
    let l = c.before in
    let xs = l.before.args.input.now in
    written_end (value xs) (length xs) l.loop-n.output l.loop-n.n l.loop-n.invariant (omega arith)
    ∙ table_of (value xs) (pos 0) (map short xs) (length xs) (length-map xs short) (λ k p. sym (get_or_short xs k))
