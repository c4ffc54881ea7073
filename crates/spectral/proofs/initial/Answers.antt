use borrow.Author.Rules.{rules}
use Rattle.sequence.specs.Made.{table_from_fn}
use Rattle.spectral.specs.Spectral.{initial, initial_at}
use Rattle.spectral.proofs.initial.Goals as goal

pub returns : goal.returns
unfolding initial
returns c = table_from_fn (initial_at c.args.words.now) c.from_fn.ensures.items (λ k y q h e. search rules)
