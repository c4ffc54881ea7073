use Rattle.std.proofs.Common.{◌≡◌, ◌+◌, ◌-◌, ◌*◌, ◌^◌, ◌<◌, get_or}
use Rattle.bits.specs.Bits.{read, down, byte_of}
use Rattle.bits.proofs.byte.Given as goal

abbrev pub invariant-loop-t : goal.invariant-loop-t
invariant-loop-t l = (l.v < 2 ^ (8 - l.t)) × (read l.v (down l.t (λ k. get_or l.bits (l.b * 8 + k) 0)) ≡ byte_of l.bits l.b)
