use mathlib.Core.Path.{◌≡◌}
use mathlib.Core.Bool.{Bool}
use mathlib.Core.List.{List}
use Prim.Native.Nat.{ℕ, ◌-◌, ◌≤◌, ◌^◌}
use lib.Dec.{leb}
use lib.ListN.{get_or}
use Rattle.sequence.specs.First.{first, first_from}
use Rattle.bits.specs.Bits.{widths}
use Rattle.frame_params.proofs.check_widths.Given as goal

-- field j is over its width
abbrev pub wide : List ℕ → ℕ → Bool
wide fs j = leb (2 ^ get_or widths j 0) (get_or fs j 0)

abbrev pub invariant-loop-k : goal.invariant-loop-k
invariant-loop-k l = (l.k ≤ 24) × (first_from (wide l.fields) l.k (24 - l.k) ≡ first (wide l.fields) 24)
