-- Field by field along the table, each from its own places.
use mathlib.Core.Path.{refl, ap, ◌∙◌}
use mathlib.Core.List.{List, map}
use Prim.Native.Nat.{ℕ}
use native.Mathlib.Omega.{arith}
use Rattle.sequence.specs.Table.{table, written_more, written_end}
use Rattle.bits.specs.Bits as Bits
use Rattle.bits.proofs.Walk.{walk_none, walk_more, field, gathered}
use Rattle.bits.proofs.gather.Goals as goal

pub loop-k-init : goal.loop-k-init
unfolding table Bits.places Bits.groups
loop-k-init c = (refl, walk_none, (omega arith, refl, refl))

pub read-requires : goal.read-requires
read-requires c = let s = walk_more c.loop-k.invariant.1 c.loop-k-test.true c.width-w.ensures in (c.loop-k.invariant.0, omega arith, omega arith, omega arith)

pub overflow_add-at : goal.overflow_add-at
overflow_add-at c = omega (arith, (walk_more c.loop-k.invariant.1 c.loop-k-test.true c.width-w.ensures).near)

pub loop-k-preserved : goal.loop-k-preserved
loop-k-preserved c =
    let l = c.loop-k in
    let s = walk_more c.loop-k.invariant.1 c.loop-k-test.true c.width-w.ensures in
    let p : List ℕ = c.args.payload.now in (
      l.invariant.0,
      s.next,
      written_more (field (Bits.read_bit p)) 24 l.fields l.k c.read.result l.invariant.2 (omega arith)
          (c.read.ensures ∙ ap (λ (g : List ℕ). Bits.read 0 (map (Bits.read_bit p) g)) s.here),
    )

pub returns : goal.returns
returns c =
    let l = c.before.loop-k in
    let f = Bits.read_bit c.before.before.before.args.payload.now in
    written_end (field f) 24 l.fields l.k l.invariant.2 (omega arith) ∙ gathered f
