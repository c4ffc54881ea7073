use Rattle.code_index.proofs.Digits.{Found}
use Rattle.code_index.proofs.decompose.Given as goal

abbrev pub invariant-loop-k : goal.invariant-loop-k
invariant-loop-k l = Found l.words l.class l.rest l.k l.x l.positions
