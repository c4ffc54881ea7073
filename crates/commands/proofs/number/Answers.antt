-- What is left to read goes on from the number so far.
use Prim.Native.Nat.{suc}
use mathlib.Core.Path.{refl, sym, ap, ◌∙◌}
use native.Mathlib.Numerals.{add-one}
use native.Mathlib.Omega.{arith}
use lib.ListN.{drop, drop_of_length-le}
use lib.Seq.{drop-cons}
use Rattle.commands.specs.Commands.{number_from, number_more, number_end, number_none, number_some}
use Rattle.commands.proofs.number.Goals as goal

pub returns-then-text-eq0 : goal.returns-then-text-eq0
returns-then-text-eq0 c = (sym (number_none _ c.if-text-eq0.true), omega arith)

pub loop-c-init : goal.loop-c-init
loop-c-init c = (omega arith, refl)

pub more-v-requires : goal.more-v-requires
more-v-requires c = c.loop-c.invariant.0

pub loop-c-preserved : goal.loop-c-preserved
loop-c-preserved c =
    let l = c.args.text.now in
    let i = c.loop-c.c-index in
    let e = c.loop-c.invariant.1 ∙ ap (number_from c.loop-c.v) (drop-cons l i 0 c.loop-c-test.true) ∙ number_more c.loop-c.v _ (drop (suc i) l) in
    (c.more-v.ensures.1, rw (add-one i, c.more-v.ensures.0) e)

pub returns : goal.returns
returns c =
    let l = c.args.text.now in
    let z = c.loop-c.invariant.1 ∙ ap (number_from c.loop-c.v) (drop_of_length-le l {i = c.loop-c.c-index} c.loop-c-test.false) ∙ number_end c.loop-c.v in
    (sym (number_some l c.if-text-eq0.false ∙ z), c.loop-c.invariant.0)
