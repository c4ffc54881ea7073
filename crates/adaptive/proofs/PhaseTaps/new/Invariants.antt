use Prim.Native.Nat.{◌≤◌}
use Rattle.adaptive.specs.Window.{Filled}
use Rattle.adaptive.proofs.PhaseTaps.new.Given as goal

abbrev pub invariant-loop-k : goal.invariant-loop-k
invariant-loop-k l = (l.k ≤ 10) × Filled l.taps l.phase l.k l.window
