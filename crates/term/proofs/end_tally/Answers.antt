-- A line that is open is a line, unless nothing stands in it.
use native.Mathlib.Omega.{arith}
use borrow.Author.Tests.{eq-eqb, ne_eqb}
use Rattle.term_steps.specs.Feed.{end_tally}
use Rattle.term.proofs.end_tally.Goals as goal

pub returns-then-line-eq0 : goal.returns-then-line-eq0
unfolding end_tally
returns-then-line-eq0 c = rw (eq-eqb c.before.before.before.before.before.args.recorder.line.n 0 (omega (arith, c.if-line-eq0.true)))

pub returns : goal.returns
unfolding end_tally
returns c = rw (ne_eqb c.before.before.before.before.before.before.before.before.args.recorder.line.n 0 (λ e. omega (arith, c.before.before.before.if-line-eq0.false)), c.before.end_line-place.ensures)
