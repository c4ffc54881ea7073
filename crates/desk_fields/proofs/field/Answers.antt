use Rattle.std.proofs.Common.{◌∙◌, arith}
use Rattle.desk_fields.proofs.Outcomes.{two_bytes}
use Rattle.desk_fields.proofs.field.Goals as goal

pub returns : goal.returns
returns c = c.from_le_bytes.ensures ∙ omega arith ∙ two_bytes c.args.fields.now c.args.k
