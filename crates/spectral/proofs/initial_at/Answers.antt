-- A word of 16 bits is a float exactly.
use mathlib.Core.Path.{ap, ◌∙◌}
use lib.IntN.{ℤ}
use lib.Ieee.{binary32, of_int}
use mir.Syntax.{w16}
use mir.ValLaws.{to_z-of_z}
use Rattle.spectral.specs.Spectral.{initial_at}
use borrow.Author.Rules.{sfits_of}
use Rattle.spectral.proofs.initial_at.Goals as goal

pub returns : goal.returns
unfolding initial_at
returns c = ap (λ (z : ℤ). of_int binary32 z) (to_z-of_z w16 c.before.word.result (sfits_of c.before.word.type_inv) ∙ c.before.word.ensures)
