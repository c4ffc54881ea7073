use Rattle.std.proofs.Common.{◌≡◌, ◌%◌, ◌<◌, length}
use Rattle.sequence.specs.Repeated.{repeated}
use Rattle.sequence.specs.Table.{Written}
use Rattle.questions.specs.Questions.{next, sample_at}
use Rattle.numbers.proofs.samples.Given as goal

abbrev pub invariant-loop-i : goal.invariant-loop-i
invariant-loop-i l = Written (sample_at l.seed) (length l.initial.out) l.out l.i × (l.x ≡ repeated (λ n y. next y) l.i (l.seed % 65536)) × (l.x < 65536)
