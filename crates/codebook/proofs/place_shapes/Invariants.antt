use mathlib.Core.Path.{◌≡◌}
use Prim.Native.Nat.{◌≤◌}
use Rattle.sequence.specs.Repeated.{repeated}
use Rattle.code_index.specs.Codebook as Codebook
use Rattle.codebook.proofs.place_shapes.Given as goal

abbrev pub invariant-loop-k : goal.invariant-loop-k
invariant-loop-k l = (l.k ≤ l.n) × (l.code ≡ repeated (Codebook.place_position l.words l.class l.positions l.rest) l.k l.initial.code)
