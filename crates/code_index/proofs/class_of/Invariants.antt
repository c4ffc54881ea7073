use Rattle.code_index.proofs.Classes.{Above}
use Rattle.code_index.proofs.class_of.Given as goal

abbrev pub invariant-loop-k : goal.invariant-loop-k
invariant-loop-k l = Above l.words l.index l.k
