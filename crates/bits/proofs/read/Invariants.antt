use Rattle.std.proofs.Common.{map, ◌+◌, ◌-◌, take, drop}
use Rattle.bits.specs.Bits as Bits
use Rattle.bits.proofs.Walk.{Reading}
use Rattle.bits.proofs.read.Given as goal

abbrev pub invariant-loop-j : goal.invariant-loop-j
invariant-loop-j l = Reading (Bits.read_bit l.payload) (Bits.read 0 (map (Bits.read_bit l.payload) (take l.width (drop l.at Bits.places)))) l.v l.j (l.at + l.width - l.j)
