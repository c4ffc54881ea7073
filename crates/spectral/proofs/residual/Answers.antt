use borrow.Author.Rules.{rules}
use Rattle.sequence.specs.Made.{table_from_fn}
use Rattle.spectral.specs.Spectral.{residual, residual_at}
use Rattle.spectral.proofs.residual.Goals as goal

pub returns : goal.returns
unfolding residual
returns c =
    table_from_fn (residual_at c.args.words.now c.args.bytes.now c.args.stage1 c.args.low c.args.high) c.from_fn.ensures.items (λ k y q h e. search rules)
