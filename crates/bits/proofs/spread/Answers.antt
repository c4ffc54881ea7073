-- Field by field along the table, each to its own places.
use mathlib.Core.Path.{refl}
use Rattle.bits.specs.Bits as Bits
use native.Mathlib.Omega.{arith}
use borrow.Author.Rules.{rules}
use Rattle.bits.proofs.Walk.{walk_none, walk_more, spread_none, spread_more, spread_end}
use Rattle.bits.proofs.spread.Goals as goal

pub loop-k-init : goal.loop-k-init
unfolding Bits.places Bits.groups
loop-k-init c = (refl, walk_none, spread_none _)

pub write-requires : goal.write-requires
write-requires c = let s = walk_more c.loop-k.invariant.1 c.loop-k-test.true c.width-w.ensures in (c.loop-k.invariant.0, omega arith, omega arith)

pub overflow_add-at : goal.overflow_add-at
overflow_add-at c = omega (arith, (walk_more c.loop-k.invariant.1 c.loop-k-test.true c.width-w.ensures).near)

pub loop-k-preserved : goal.loop-k-preserved
loop-k-preserved c =
    let l = c.loop-k in
    let s = walk_more c.loop-k.invariant.1 c.loop-k-test.true c.width-w.ensures in
    (l.invariant.0, s.next, spread_more l.invariant.2 (search rules) c.loop-k-test.true c.width-w.ensures s c.write.ensures)

pub returns : goal.returns
returns c = spread_end c.before.loop-k.invariant.2 c.before.loop-k.invariant.1.some c.loop-k-test.false
