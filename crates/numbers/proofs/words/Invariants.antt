use Rattle.std.proofs.Common.{length}
use Rattle.sequence.specs.Table.{Written}
use Rattle.questions.specs.Questions.{word_at}
use Rattle.numbers.proofs.words.Given as goal

abbrev pub invariant-loop-i : goal.invariant-loop-i
invariant-loop-i l = Written (word_at l.n l.from) (length l.initial.out) l.out l.i
