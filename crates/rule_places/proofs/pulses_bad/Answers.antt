-- The test is made of the word that was read.
use mathlib.Core.Path.{ap, ◌∙◌}
use mathlib.Core.Bool.{not}
use lib.IntN.{pos}
use mir.Syntax.{w16}
use mir.Facts.{to_z-of_z}
use borrow.Author.Rules.{sfits_of}
use Rattle.tables.specs.Tables as Tables
use Rattle.rule_places.proofs.pulses_bad.Goals as goal

pub returns : goal.returns
unfolding Tables.pulses_bad
returns c = ap not (c.between.ensures ∙ ap (Tables.between (pos 2) (pos 3)) (to_z-of_z {w = w16} {z = c.before.word.result} (sfits_of c.before.word.type_inv) ∙ c.before.word.ensures))
