-- The code's widths are the definition's, computed.
use Rattle.bits.specs.Bits.{groups, widths}
use Rattle.bits.proofs.width.Goals as goal

pub returns : goal.returns
unfolding widths groups
returns c = c.from.ensures
