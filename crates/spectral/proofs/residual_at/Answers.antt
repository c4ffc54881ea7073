-- A word of 16 bits is a float exactly, and the sum is the definition's.
use mir.Syntax.{w16}
use mir.ValLaws.{to_z-of_z}
use Rattle.spectral.specs.Spectral.{residual_at}
use borrow.Author.Rules.{sfits_of}
use Rattle.spectral.proofs.residual_at.Goals as goal

pub returns : goal.returns
unfolding residual_at
returns c = let w = c.before.before.word in rw (to_z-of_z w16 w.result (sfits_of w.type_inv), w.ensures, c.stage2_at.ensures)
