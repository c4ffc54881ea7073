use mathlib.Core.Bool.{Bool}
use mathlib.Core.List.{List}
use mathlib.Core.Path.{◌≡◌}
use Prim.Native.Nat.{ℕ, ◌≤◌}
use lib.IntN.{ℤ, pos}
use lib.ListN.{length, get_or}
use Rattle.sequence.specs.Count.{count}
use Rattle.output_filter.specs.Sections.{clips_at}
use Rattle.sections.proofs.clipped.Given as goal

abbrev pub test : List ℤ → List ℤ → ℕ → Bool
test first second n = clips_at (get_or first n (pos 0)) (get_or second n (pos 0))

abbrev pub invariant-loop-n : goal.invariant-loop-n
invariant-loop-n l = (l.n ≤ length l.first) × (l.clipped ≡ count (test l.first l.second) l.n)
