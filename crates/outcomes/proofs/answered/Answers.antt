-- The answer's number decides.
use borrow.Author.Tests.{eq-eqb, ne_eqb}
use Rattle.tally.specs.Carried.{counted_all, added_all, with_frame, with_outcome}
use Rattle.term_steps.specs.Term.{answered}
use Rattle.outcomes.proofs.answered.Goals as goal

pub returns-then-number-ne0 : goal.returns-then-number-ne0
unfolding answered with_outcome with_frame counted_all added_all
returns-then-number-ne0 c =
    let a = c.before.before.before.args.a in
    rw (c.before.numbered-t.ensures, ne_eqb a.number 0 c.if-number-ne0.true)

pub returns : goal.returns
unfolding answered with_outcome
returns c =
    let a = c.before.before.before.before.before.before.args.a in
    rw (c.with_frame.ensures, c.before.before.before.before.numbered-t.ensures, eq-eqb a.number 0 c.before.before.before.if-number-ne0.false)
