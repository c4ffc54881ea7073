use borrow.Author.Rules.{rules}
use Rattle.sequence.specs.Made.{table_from_fn}
use Rattle.spectral.specs.Spectral.{sum_at, sums}
use Rattle.frequencies.proofs.sums.Goals as goal

pub returns : goal.returns
unfolding sums
returns c =
    table_from_fn (sum_at c.args.history.now c.args.residual.now c.args.bytes.now c.args.mode) c.from_fn.ensures.items (λ k y q h e. search rules)
