-- The library's number of four bytes, the lowest first, is the definition's.
use Rattle.floats.specs.Floats.{bits_at}
use Rattle.floats.proofs.bits_at.Goals as goal

pub returns : goal.returns
unfolding bits_at
returns c = c.from_le_bytes.ensures
