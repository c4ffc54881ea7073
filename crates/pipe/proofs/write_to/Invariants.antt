use Rattle.std.proofs.Common.{◌≤◌, length}
use Rattle.pipe.proofs.write_to.Given as goal

abbrev pub invariant-loop : goal.invariant-loop
invariant-loop g l = l.at ≤ length l.text
