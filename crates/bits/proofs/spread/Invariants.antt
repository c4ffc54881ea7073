use mathlib.Core.Path.{◌≡◌}
use Rattle.bits.specs.Bits as Bits
use Rattle.bits.proofs.Walk.{Walk, Spread}
use Rattle.bits.proofs.spread.Given as goal

abbrev pub invariant-loop-k : goal.invariant-loop-k
invariant-loop-k l = (l.places ≡ Bits.places) × Walk l.at l.k × Spread l.fields l.bits l.k
