-- The test is made of the word that was read.
use mathlib.Core.Path.{ap, ◌∙◌}
use lib.IntN.{ℤ, pos}
use lib.Signed.{lt_z}
use mir.Syntax.{w16}
use mir.Facts.{to_z-of_z}
use borrow.Author.Rules.{sfits_of}
use Rattle.tables.specs.Tables as Tables
use Rattle.rule_places.proofs.position_bad.Goals as goal

pub returns : goal.returns
unfolding Tables.position_bad
returns c = ap (λ (x : ℤ). lt_z x (pos 0)) (to_z-of_z {w = w16} {z = c.word.result} (sfits_of c.word.type_inv) ∙ c.word.ensures)
