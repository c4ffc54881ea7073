use Prim.Native.Nat.{◌≤◌}
use Rattle.places.specs.Places.{At}
use Rattle.places.proofs.place_of.Given as goal

abbrev pub invariant-loop-n : goal.invariant-loop-n
invariant-loop-n l = (l.n ≤ l.k) × At l.recording l.a l.n
