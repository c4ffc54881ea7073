use Rattle.std.proofs.Common.{rules}
use Rattle.sequence.specs.Made.{table_from_fn}
use Rattle.hex_lines.specs.Text.{byte_at, payload}
use Rattle.hex_lines.proofs.payload.Goals as goal

pub returns : goal.returns
unfolding payload
returns c = table_from_fn (byte_at c.args.text) c.from_fn.ensures.items (λ k y q h e. search rules)
