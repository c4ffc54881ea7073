-- The tests of k are those of the definition.
use borrow.Author.Tests.{ne_eqb}
use native.Mathlib.Omega.{arith}
use Rattle.tables.specs.Tables as Tables
use Rattle.rule_places.proofs.limit_bad.Goals as goal

pub returns-in-0 : goal.returns-in-0
unfolding Tables.limit_bad
returns-in-0 c = rw (c.unsigned_word-x.ensures, c.in-0.is)

pub returns-in-1 : goal.returns-in-1
unfolding Tables.limit_bad
returns-in-1 c = rw (c.unsigned_word-x.ensures, c.in-1.is)

pub returns-in_default : goal.returns-in_default
unfolding Tables.limit_bad
returns-in_default c = rw (c.unsigned_word-x.ensures, c.unsigned_word.ensures, ne_eqb c.args.k 0 (λ e. omega (arith, c.in_default)), ne_eqb c.args.k 1 (λ e. omega (arith, c.in_default)))
