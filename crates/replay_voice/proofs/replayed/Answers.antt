-- What the check lets pass is sound.
use mathlib.Core.Path.{sym}
use Rattle.tables.specs.Sound.{sound}
use borrow.Author.Rules.{rules}
use Rattle.replay_voice.proofs.replayed.Goals as goal

pub asked_all-requires : goal.asked_all-requires
asked_all-requires c = ((sound c.args.words.now c.args.bytes.now (sym c.in-Ok.ensures)).of_words, search rules)
