-- All that was put, from the start of the room.
use Rattle.std.proofs.Common.{refl, arith}
use borrow.Author.Rules.{rules}
use Rattle.writer.specs.Wrote.{wrote_over}
use Rattle.verdict_text.proofs.put_round.Goals as goal

pub returns-clause-length : goal.returns-clause-length
returns-clause-length c = omega (arith, c.put_judged.ensures.wrote.next)

pub returns-clause-text : goal.returns-clause-text
returns-clause-text c =
    let w = c.put_judged.ensures.wrote in
    let f = c.put_judged.ensures.fits in
    let e = (wrote_over w refl (omega (arith, w.next, c.requires))).1 in
    search (rules, e)
