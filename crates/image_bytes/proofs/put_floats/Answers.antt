-- By turn k the first k numbers are stored.
use lib.Ieee.{binary32, to_bits, nan}
use Rattle.image_bytes.proofs.Loops.{stored_none, stored_more, stored_end}
use Rattle.image_bytes.proofs.put_floats.Goals as goal

pub loop-k-init : goal.loop-k-init
loop-k-init c = stored_none (to_bits binary32) nan 4 c.args.floats.now c.args.room.now c.args.at

pub loop-k-preserved : goal.loop-k-preserved
loop-k-preserved c =
    stored_more (to_bits binary32) nan 4 c.args.floats.now c.args.room.now c.args.at _ _ c.loop-k.k _ c.loop-k.invariant c.loop-k-test.true c.f32_to_bits_with_nan.ensures c.put_long.ensures

pub returns : goal.returns
returns c = stored_end (to_bits binary32) nan 4 c.args.floats.now c.args.room.now c.args.at _ c.loop-k.k c.loop-k.invariant c.loop-k-test.false
