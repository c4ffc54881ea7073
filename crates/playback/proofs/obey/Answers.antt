-- By kinds.
use Rattle.std.proofs.Common.{refl, ◌∙◌}
use borrow.Author.Tests.{eqb-false}
use Rattle.commands.specs.declared.Command.TheVariants.{Save, Hold, LetGo, Seek, Play, Unknown}
use Rattle.commands.specs.Commands.{told}
use Rattle.playback.proofs.Steps.{obeys_save, obeys_hold, obeys_let_go, obeys_seek, obeys_play, obeys_none}
use Rattle.playback.proofs.obey.Goals as goal

pub returns-in-Save : goal.returns-in-Save
returns-in-Save c =
    rw c.in-Save.is (obeys_save _ _ _ _ (told (Save c.in-Save.k)) _ _ _ _ refl c.save.ensures.quiet c.save.ensures.images_after)

pub returns-in-Hold : goal.returns-in-Hold
returns-in-Hold c =
    rw c.in-Hold.is (obeys_hold _ _ _ _ (told (Hold c.in-Hold.k)) _ _ _ _ refl (eqb-false 2 1 refl) refl c.hold.ensures)

pub returns-in-LetGo : goal.returns-in-LetGo
returns-in-LetGo c =
    rw c.in-LetGo.is (obeys_let_go _ _ _ _ (told (LetGo c.in-LetGo.k)) _ _ _ _ refl (eqb-false 3 1 refl) (eqb-false 3 2 refl) refl c.let_go.ensures)

pub returns-in-Seek : goal.returns-in-Seek
returns-in-Seek c =
    rw c.in-Seek.is (obeys_seek _ _ _ _ (told (Seek c.in-Seek.k)) _ _ _ _ refl (eqb-false 4 1 refl) (eqb-false 4 2 refl) (eqb-false 4 3 refl) refl _ (c.numbered.ensures ∙ c.seek-s.ensures) c.tell.ensures)

pub returns-in-Play : goal.returns-in-Play
returns-in-Play c =
    rw c.in-Play.is (obeys_play _ _ _ _ (told (Play c.in-Play.k c.in-Play.n)) _ _ _ _ refl (eqb-false 5 1 refl) (eqb-false 5 2 refl) (eqb-false 5 3 refl) refl _ (c.numbered-in-Play.ensures ∙ c.seek-s-in-Play.ensures) c.begin_play.ensures)

pub returns-in-Unknown : goal.returns-in-Unknown
returns-in-Unknown c =
    rw c.in-Unknown.is (obeys_none _ _ _ _ (told Unknown) _ _ _ _ refl (eqb-false 0 1 refl) (eqb-false 0 2 refl) (eqb-false 0 3 refl) (eqb-false 0 4 refl) (eqb-false 0 5 refl) c.wonder.ensures)
