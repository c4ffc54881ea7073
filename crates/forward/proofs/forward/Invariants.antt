use Prim.Native.Nat.{◌-◌}
use Rattle.forward.specs.Gone.{Gone}
use Rattle.forward.proofs.forward.Given as goal

abbrev pub invariant-loop-n : goal.invariant-loop-n
invariant-loop-n l = Gone l.words l.bytes l.recording l.initial.s l.j l.k l.s l.a l.n

abbrev pub decreases-loop-n : goal.decreases-loop-n
decreases-loop-n l = l.k - l.n
