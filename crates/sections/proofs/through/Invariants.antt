use mathlib.Core.List.{List}
use mathlib.Core.Path.{◌≡◌}
use Prim.Native.Nat.{ℕ}
use lib.IntN.{ℤ, pos}
use lib.ListN.{length, get_or, take}
use Rattle.sequence.specs.Table.{Written}
use Rattle.output_filter.specs.declared.Lines.{Lines}
use Rattle.output_filter.specs.declared.Taps.{Taps}
use Rattle.output_filter.specs.Sections.{line_sum, wide, left}
use Rattle.sections.proofs.through.Given as goal

abbrev pub value : Taps → Lines → List ℤ → ℕ → ℤ
value taps lines xs k = wide (line_sum taps (left taps lines (take k xs)) (get_or xs k (pos 0)))

abbrev pub invariant-loop-n : goal.invariant-loop-n
invariant-loop-n l = Written (value l.taps l.initial.state l.input) (length l.input) l.output l.n × (l.state ≡ left l.taps l.initial.state (take l.n l.input))
