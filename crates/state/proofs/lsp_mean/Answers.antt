-- Each word is that of its place.
use borrow.Author.Rules.{rules}
use Rattle.std.specs.Prelude.{ℕ, ◌+◌}
use Rattle.sequence.specs.Made.{table_from_fn}
use Rattle.tables.specs.Places.{LSP_MEAN}
use Rattle.tables.specs.Tables.{word}
use Rattle.state.specs.State.{lsp_mean}
use Rattle.state.proofs.lsp_mean.Goals as goal

pub returns : goal.returns
unfolding lsp_mean
returns c = table_from_fn (λ (k : ℕ). word c.args.words.now (LSP_MEAN + k)) c.from_fn.ensures.items (λ k y q h e. search rules)
