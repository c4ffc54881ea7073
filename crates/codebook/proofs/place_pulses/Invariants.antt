use mathlib.Core.Path.{◌≡◌}
use Prim.Native.Nat.{◌≤◌}
use Rattle.sequence.specs.Repeated.{repeated}
use Rattle.code_index.specs.Codebook as Codebook
use Rattle.codebook.proofs.place_pulses.Given as goal

abbrev pub invariant-loop-entry : goal.invariant-loop-entry
invariant-loop-entry l = (l.entry-index ≤ 5) × (l.code ≡ repeated (Codebook.place_entry l.words l.row) l.entry-index l.initial.code)
