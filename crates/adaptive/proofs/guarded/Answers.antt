-- The 21 zeros before the part that is copied into stay.
use mathlib.Core.Path.{◌∙◌, ap}
use mathlib.Core.List.{List, ◌++◌, append-nil}
use lib.IntN.{ℤ, pos}
use lib.ListN.{replicate}
use Rattle.pitch.specs.Pitch as Pitch
use Rattle.adaptive.proofs.guarded.Goals as goal

pub returns : goal.returns
unfolding Pitch.guarded
returns c = ap (λ (l : List ℤ). replicate 21 (pos 0) ++ l) (append-nil _ ∙ c.before.copy_from_slice.ensures.after)
