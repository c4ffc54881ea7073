use mathlib.Core.Bool.{Bool}
use mathlib.Core.List.{List}
use mathlib.Core.Path.{◌≡◌}
use Prim.Native.Nat.{ℕ}
use lib.IntN.{ℤ, pos}
use lib.ListN.{get_or}
use Rattle.sequence.specs.Count.{count}
use Rattle.fixed.specs.Clips.{at_end}
use Rattle.fixed.proofs.ends.Given as goal

abbrev pub test : List ℤ → ℕ → Bool
test block n = at_end (get_or block n (pos 0))

abbrev pub invariant-loop-x : goal.invariant-loop-x
invariant-loop-x l = l.found ≡ count (test l.block) l.x-index
