-- A byte's bit is a shift and a remainder, as the definition has it.
use native.Mathlib.Omega.{arith}
use Rattle.bits.specs.Bits.{read_bit, bit_at}
use Rattle.bits.proofs.bit.Goals as goal

pub returns : goal.returns
unfolding read_bit bit_at
returns c = (rw c.inverted.ensures.0, omega arith)
