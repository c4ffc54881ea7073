use Rattle.std.proofs.Common.{◌+◌, ◌-◌, take, drop}
use Rattle.bits.specs.Bits as Bits
use Rattle.bits.proofs.Walk.{Writing}
use Rattle.bits.proofs.write.Given as goal

abbrev pub invariant-loop-k : goal.invariant-loop-k
invariant-loop-k l = Writing (Bits.scatter l.initial.bits (take l.width (drop l.at Bits.places)) (Bits.digits l.width l.v)) l.bits l.v (l.at + l.k) (l.width - l.k)
