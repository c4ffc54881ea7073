use Rattle.std.proofs.Common.{rules, ◌∙◌}
use Rattle.sequence.specs.Made.{table_from_fn}
use Rattle.convert.specs.Halves.{digit_at, by_digits}
use Rattle.convert.proofs.hexadecimal.Goals as goal

pub returns : goal.returns
returns c = table_from_fn (digit_at c.args.payload.now) c.from_fn.ensures.items (λ k y q h e. search rules) ∙ by_digits _ c.requires
