use mathlib.Core.Path.{◌≡◌}
use Rattle.receiver.specs.Receiver as Receiver
use Rattle.receiver.proofs.Walk.{Putting}
use Rattle.receiver.proofs.bits_of.Given as goal

abbrev pub invariant-loop-j : goal.invariant-loop-j
invariant-loop-j l = (l.order ≡ Receiver.order) × Putting l.line l.out l.j
