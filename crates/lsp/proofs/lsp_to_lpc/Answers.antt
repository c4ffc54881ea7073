-- The array that the library makes is the table of its items.
use borrow.Author.Rules.{rules}
use Rattle.sequence.specs.Made.{table_from_fn}
use Rattle.lsp.specs.Lsp as Lsp
use Rattle.lsp.proofs.lsp_to_lpc.Goals as goal

pub returns : goal.returns
unfolding Lsp.lsp_to_lpc
returns c = table_from_fn (Lsp.predictor (Lsp.lsp_polynomial c.args.lsp 0) (Lsp.lsp_polynomial c.args.lsp 1)) c.from_fn.ensures.items (λ k y q h e. search rules)
