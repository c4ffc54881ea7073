use mathlib.Core.Path.{◌≡◌}
use Prim.Native.Nat.{◌≤◌}
use Rattle.sequence.specs.Rewritten.{rewritten}
use Rattle.code_index.specs.Codebook as Codebook
use Rattle.codebook.proofs.place_shape.Given as goal

abbrev pub invariant-loop-n : goal.invariant-loop-n
invariant-loop-n l = (l.n ≤ l.end) × (l.code ≡ rewritten (Codebook.shaped l.words l.shape l.start l.add) l.start l.initial.code l.n)
