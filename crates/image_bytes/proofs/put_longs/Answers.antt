-- By turn k the first k numbers are stored.
use mathlib.Core.Path.{ap, ◌∙◌}
use lib.ListN.{get_or}
use mir.Syntax.{w32}
use mir.Facts.{to_z-of_z}
use borrow.Author.Rules.{sfits_of}
use lib.IntN.{pos}
use Rattle.image.specs.Image.{unsigned}
use Rattle.image_bytes.proofs.Loops.{stored_none, stored_more, stored_end}
use Rattle.image_bytes.proofs.put_longs.Goals as goal

pub loop-k-init : goal.loop-k-init
loop-k-init c = stored_none (unsigned 4) (pos 0) 4 c.args.longs.now c.args.room.now c.args.at

pub loop-k-preserved : goal.loop-k-preserved
loop-k-preserved c =
    stored_more (unsigned 4) (pos 0) 4 c.args.longs.now c.args.room.now c.args.at _ _ c.loop-k.k _ c.loop-k.invariant c.loop-k-test.true (c.unsigned_long.ensures ∙ ap (unsigned 4) (to_z-of_z {w = w32} {z = get_or c.args.longs.now c.loop-k.k (pos 0)} (sfits_of c.unsigned_long-arg-1.given))) c.put_long.ensures

pub returns : goal.returns
returns c = stored_end (unsigned 4) (pos 0) 4 c.args.longs.now c.args.room.now c.args.at _ c.loop-k.k c.loop-k.invariant c.loop-k-test.false
