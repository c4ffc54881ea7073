-- The call on states was given what the definition gives it; a set of one word is refused with 1, as tables of another length are.
use Rattle.std.proofs.Common.{refl}
use Rattle.seek.specs.Seek.{answer}
use Rattle.desk.proofs.Outcomes.{words_are}
use Rattle.desk.proofs.Seeks.{short_sought, sought_is}
use Rattle.desk.proofs.sought.Goals as goal

pub returns-then-tables-ne-TABLES : goal.returns-then-tables-ne-TABLES
returns-then-tables-ne-TABLES c =
    let a = c.args in
    short_sought a.tables.now _ _ a.images.now a.recording.now a.k (answer c.seek.result) c.if-tables-ne-TABLES.true refl c.seek.ensures

pub returns : goal.returns
returns c =
    let a = c.args in
    sought_is a.tables.now _ _ _ a.images.now a.recording.now a.k (answer c.seek-2.result) (words_are a.tables.now _ _ refl c.read_words.ensures) refl c.seek-2.ensures
