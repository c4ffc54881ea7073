use Rattle.std.proofs.Common.{rules, ◌+◌, get_or}
use Rattle.sequence.specs.Made.{table_from_fn}
use Rattle.bits.specs.Bits.{read_bit}
use Rattle.receiver.specs.Receiver as Receiver
use Rattle.receiver.proofs.digits_of.Goals as goal

pub returns : goal.returns
returns c = table_from_fn (λ j. 48 + read_bit c.args.payload.now (get_or Receiver.order j 0)) c.from_fn.ensures.items (λ k y q h e. search rules)
