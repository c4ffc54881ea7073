use Rattle.std.proofs.Common.{length}
use Rattle.sequence.specs.Table.{Written}
use Rattle.questions.specs.Questions.{float_at}
use Rattle.numbers.proofs.floats_from.Given as goal

abbrev pub invariant-loop-i : goal.invariant-loop-i
invariant-loop-i l = Written (float_at l.n l.from) (length l.initial.out) l.out l.i
