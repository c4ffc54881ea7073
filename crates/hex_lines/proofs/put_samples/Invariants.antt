use Rattle.hex_lines.specs.Stores.{stored}
use Rattle.hex_lines.proofs.put_samples.Given as goal

abbrev pub invariant-loop-k : goal.invariant-loop-k
invariant-loop-k l = stored l.samples l.initial.out l.at l.out l.k
