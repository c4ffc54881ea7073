-- Both tests are made of the word that was read.
use Rattle.std.proofs.Common.{sym, ap, ◌∙◌}
use mathlib.Core.Bool.{not}
use lib.IntN.{pos, negsuc}
use mir.Syntax.{w16}
use mir.Facts.{to_z-of_z}
use borrow.Author.Rules.{sfits_of}
use Rattle.tables.specs.Tables as Tables
use Rattle.rule_places.proofs.entry_bad.Goals as goal

pub returns-then-not-between : goal.returns-then-not-between
unfolding Tables.entry_bad
returns-then-not-between c =
    let w = c.word-x in
    let z = to_z-of_z {w = w16} {z = w.result} (sfits_of w.type_inv) in
    rw (← w.ensures, sym (c.between.ensures ∙ ap (Tables.between (negsuc 79) (negsuc 0)) z) ∙ c.if-not-between.true) (ap not (c.between-then-not-between.ensures ∙ ap (Tables.between (pos 1) (pos 80)) z))

pub returns-else-not-between : goal.returns-else-not-between
unfolding Tables.entry_bad
returns-else-not-between c =
    let w = c.word-x in
    rw (← w.ensures, sym (c.between.ensures ∙ ap (Tables.between (negsuc 79) (negsuc 0)) (to_z-of_z {w = w16} {z = w.result} (sfits_of w.type_inv))) ∙ c.if-not-between.false, c.if-not-between.false)
