use Rattle.std.proofs.Common.{rules, ◌+◌, ◌*◌}
use Rattle.sequence.specs.Made.{table_from_fn}
use Rattle.image.specs.Bytes.{number_at}
use Rattle.image.specs.Parts.{numbers_at}
use Rattle.desk_fields.proofs.numbers.Goals as goal

pub returns : goal.returns
unfolding numbers_at
returns c = table_from_fn (λ j. number_at 2 c.args.fields.now (0 + 2 * j)) c.from_fn.ensures.items (λ k y q h e. search rules)
