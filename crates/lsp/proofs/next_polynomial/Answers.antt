-- The array that the library makes is the table of its items.
use borrow.Author.Rules.{rules}
use Rattle.sequence.specs.Made.{table_from_fn}
use Rattle.lsp.specs.Lsp as Lsp
use Rattle.lsp.proofs.next_polynomial.Goals as goal

pub returns : goal.returns
unfolding Lsp.next_polynomial
returns c = table_from_fn (Lsp.coefficient c.args.l c.args.i c.args.f) c.from_fn.ensures.items (λ k y q h e. search rules)
