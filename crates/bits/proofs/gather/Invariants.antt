use mathlib.Core.Path.{◌≡◌}
use Rattle.sequence.specs.Table.{Written}
use Rattle.bits.specs.Bits as Bits
use Rattle.bits.proofs.Walk.{Walk, field}
use Rattle.bits.proofs.gather.Given as goal

abbrev pub invariant-loop-k : goal.invariant-loop-k
invariant-loop-k l = (l.places ≡ Bits.places) × Walk l.at l.k × Written (field (Bits.read_bit l.payload)) 24 l.fields l.k
