use Rattle.sequence.specs.Table.{Written}
use Rattle.bits.specs.Bits.{byte_of}
use Rattle.bits.proofs.put_bytes.Given as goal

abbrev pub invariant-loop-b : goal.invariant-loop-b
invariant-loop-b l = Written (byte_of l.bits) 20 l.out l.b
