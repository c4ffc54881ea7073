use mathlib.Core.List.{List}
use Prim.Native.Nat.{ℕ}
use lib.IntN.{ℤ, pos}
use lib.ListN.{length, get_or}
use Rattle.sequence.specs.Table.{Written}
use Rattle.output_filter.specs.Sections.{short}
use Rattle.sections.proofs.shorten.Given as goal

abbrev pub value : List ℤ → ℕ → ℤ
value input k = short (get_or input k (pos 0))

abbrev pub invariant-loop-n : goal.invariant-loop-n
invariant-loop-n l = Written (value l.input) (length l.input) l.output l.n
