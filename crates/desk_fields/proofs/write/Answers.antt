use Rattle.std.proofs.Common.{rules, ◌∙◌}
use Rattle.sequence.specs.Made.{table_from_fn}
use Rattle.desk_fields.specs.Fields.{byte_of}
use Rattle.desk_fields.proofs.write.Goals as goal

pub returns : goal.returns
returns c = c.copy_from_slice.ensures.after ∙ table_from_fn (byte_of c.args.fields.now) c.from_fn-bytes.ensures.items (λ k y q h e. search rules)
