-- The two parts.
use Rattle.std.proofs.Common.{refl, arith}
use borrow.Author.Rules.{rules}
use Rattle.writer.specs.Wrote.{wrote_more, wrote_over}
use Rattle.mending.specs.Texts.{replaced_is, replaced_long}
use Rattle.mending.proofs.put_replaced.Goals as goal

pub returns : goal.returns
returns c =
    let w = wrote_more c.put_decimal.ensures.wrote c.put.ensures in
    let h = replaced_long c.args.number in
    let e = wrote_over w refl (omega (arith, c.requires)) in
    rw (replaced_is c.args.number) (record { length = e.0; text = search (rules, e.1) })
