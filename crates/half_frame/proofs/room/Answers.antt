-- The samples that are kept, before the zeros that were there.
use mathlib.Core.Path.{ap}
use Rattle.std.specs.Prelude.{List, ◌++◌, replicate, ℤ, pos}
use Rattle.half.specs.Core as Spec
use Rattle.half_frame.proofs.room.Goals as goal

pub returns : goal.returns
unfolding Spec.room
returns c = ap (λ (l : List ℤ). l ++ replicate 160 (pos 0)) c.copy_from_slice.ensures.after
