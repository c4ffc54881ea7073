use Prim.Native.Nat.{◌-◌}
use lib.ListN.{length}
use Rattle.celp.proofs.Coming.{Coming}
use Rattle.celp.proofs.each.Given as goal

abbrev pub invariant-loop-k : goal.invariant-loop-k
invariant-loop-k l = Coming l.words l.bytes l.initial.state l.payloads l.initial.samples (length l.initial.numbers) l.state l.samples l.numbers l.k

abbrev pub decreases-loop-k : goal.decreases-loop-k
decreases-loop-k l = length l.initial.numbers - l.k
