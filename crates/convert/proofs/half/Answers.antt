-- The test is the definition's.
use native.Mathlib.Omega.{arith}
use borrow.Author.Tests.{eq-eqb, ne_eqb}
use Rattle.convert.specs.Halves.{half}
use Rattle.convert.proofs.half.Goals as goal

pub returns-then-k-eq0 : goal.returns-then-k-eq0
unfolding half
returns-then-k-eq0 c = record {
  value = rw (eq-eqb _ 0 c.if-k-eq0.true);
  upper_bound = omega arith;
}

pub returns-else-k-eq0 : goal.returns-else-k-eq0
unfolding half
returns-else-k-eq0 c = record {
  value = rw (ne_eqb _ 0 c.if-k-eq0.false);
  upper_bound = omega arith;
}
