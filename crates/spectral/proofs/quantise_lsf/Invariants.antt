use Rattle.spectral.proofs.Largest.{Running}
use Rattle.spectral.proofs.quantise_lsf.Given as goal

abbrev pub invariant-loop-k : goal.invariant-loop-k
invariant-loop-k l = Running l.lsf l.out l.prior l.k
