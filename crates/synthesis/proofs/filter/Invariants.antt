use mathlib.Core.Path.{◌≡◌}
use lib.ListN.{length}
use Rattle.sequence.specs.Table.{Written}
use Rattle.synthesis.proofs.Window.{Filtered, value}
use Rattle.synthesis.proofs.filter.Given as goal

abbrev pub invariant-loop-n : goal.invariant-loop-n
invariant-loop-n l = (l.count ≡ length l.input) × Filtered l.a l.mem l.input l.window l.output l.n × Written (value l.a l.mem l.input) (length l.input) l.sums l.n
