-- By turn k the first k numbers are stored.
use mathlib.Core.Path.{◌∙◌}
use lib.IntN.{pos}
use Rattle.image.specs.Image.{unsigned}
use Rattle.image_bytes.proofs.Loops.{stored_none, stored_more, stored_end, word_is}
use Rattle.image_bytes.proofs.put_words.Goals as goal

pub loop-k-init : goal.loop-k-init
loop-k-init c = stored_none (unsigned 2) (pos 0) 2 c.args.words.now c.args.room.now c.args.at

pub loop-k-preserved : goal.loop-k-preserved
loop-k-preserved c =
    stored_more (unsigned 2) (pos 0) 2 c.args.words.now c.args.room.now c.args.at _ _ c.loop-k.k _ c.loop-k.invariant c.loop-k-test.true (c.unsigned_word.ensures ∙ word_is c.args.words.now c.loop-k.k) c.put_word.ensures

pub returns : goal.returns
returns c = stored_end (unsigned 2) (pos 0) 2 c.args.words.now c.args.room.now c.args.at _ c.loop-k.k c.loop-k.invariant c.loop-k-test.false
