use Rattle.std.proofs.Common.{◌≡◌, take}
use Rattle.mending.specs.Look as Look
use Rattle.mending.proofs.look.Given as goal

abbrev pub invariant-loop-b : goal.invariant-loop-b
invariant-loop-b l = l.found ≡ Look.found (take l.b-index l.line)
