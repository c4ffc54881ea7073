-- The array that the library makes is the table of its items.
use borrow.Author.Rules.{rules}
use lib.IntN.{pos}
use lib.ListN.{get_or}
use Rattle.sequence.specs.Made.{table_from_fn}
use Rattle.lsp.specs.Lsp as Lsp
use Rattle.lsp.proofs.lsf_to_lsp.Goals as goal

pub returns : goal.returns
unfolding Lsp.lsf_to_lsp
returns c = table_from_fn (λ i. Lsp.cosine c.args.words.now (get_or c.args.lsf i (pos 0))) c.from_fn.ensures.items (λ k y q h e. search rules)
