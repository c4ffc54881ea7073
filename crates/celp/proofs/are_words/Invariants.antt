use Prim.Native.Nat.{ℕ, ◌-◌, ◌<◌, ◌≤◌}
use lib.Signed.{mag}
use lib.ListN.{length}
use Rattle.tables.specs.Tables.{word}
use Rattle.celp.proofs.are_words.Given as goal

abbrev pub invariant-loop-i : goal.invariant-loop-i
invariant-loop-i l = (l.i ≤ length l.words) × ((k : ℕ) → k < l.i → mag (word l.words k) < 32768)

abbrev pub decreases-loop-i : goal.decreases-loop-i
decreases-loop-i l = length l.words - l.i
