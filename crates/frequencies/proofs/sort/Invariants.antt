use mathlib.Core.Path.{◌≡◌}
use Prim.Native.Nat.{◌≤◌}
use lib.ListN.{length}
use Rattle.frequencies.proofs.Insertion.{sorted_from}
use Rattle.frequencies.proofs.sort.Given as goal

abbrev pub invariant-loop-n : goal.invariant-loop-n
invariant-loop-n l = (l.n ≤ 10) × (length l.initial.out ≡ 10) × (length l.out ≡ 10) × (l.out ≡ sorted_from l.initial.out l.n)
