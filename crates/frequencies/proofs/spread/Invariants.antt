use Rattle.frequencies.proofs.Spacing.{Spaced}
use Rattle.frequencies.proofs.spread.Given as goal

abbrev pub invariant-loop-k : goal.invariant-loop-k
invariant-loop-k l = Spaced l.a l.out l.prior l.k
