-- Each arm by its test.
use borrow.Author.Rules.{rules}
use borrow.Author.Tests.{eq-eqb, ne_eqb}
use mir.Syntax.{w32}
use Rattle.fixed.specs.Machine.{back}
use Rattle.lsp.specs.Lsp as Lsp
use Rattle.lsp.proofs.own.Goals as goal

pub returns-then-i-j : goal.returns-then-i-j
unfolding Lsp.own
returns-then-i-j c = simp (eq-eqb _ _ c.before.if-i-j.true) (back w32 _ (search rules))

pub returns : goal.returns
unfolding Lsp.own
returns c = simp (ne_eqb _ _ c.before.if-i-j.false) (back w32 _ (search rules))
