-- One part behind the other, with a last line or without.
use Rattle.std.proofs.Common.{arith, refl}
use borrow.Author.Rules.{rules}
use Rattle.writer.specs.Wrote.{wrote_over}
use Rattle.term_text.proofs.put_report.Goals as goal

pub returns-clause-length : goal.returns-clause-length
returns-clause-length c = omega (arith, c.put_all.ensures.wrote.next)

pub returns-clause-text : goal.returns-clause-text
returns-clause-text c =
    let w = c.put_all.ensures.wrote in
    let f = c.put_all.ensures.fits in
    let e = (wrote_over w refl (omega (arith, w.next, c.requires))).1 in
    search (rules, e)
