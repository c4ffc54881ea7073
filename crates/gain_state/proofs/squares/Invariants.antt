use mathlib.Core.Path.{◌≡◌}
use Prim.Native.Nat.{◌+◌, ◌*◌, ◌≤◌}
use lib.IntN.{pos}
use lib.ListN.{get_or}
use Rattle.sequence.specs.Total.{total}
use Rattle.gain.specs.Gain.{square}
use Rattle.gain_state.proofs.squares.Given as goal

abbrev pub invariant-loop-c : goal.invariant-loop-c
invariant-loop-c l = (l.c-index ≤ 80) × (l.n ≡ total ◌+◌ 0 (λ k. square (get_or l.code k (pos 0))) l.c-index) × (l.n ≤ l.c-index * 1073741824)
