-- The local holds the sum of the products so far, which the taps' sizes keep within 32 bits.
use borrow.Author.Rules.{rules}
use native.Mathlib.Omega.{arith}
use mathlib.Core.Path.{◌≡◌, ◌∙◌, ap}
use Prim.Native.Nat.{◌≤◌}
use borrow.Author.Tests.{leb-true}
use lib.ListN.{length}
use mir.Syntax.{w32}
use mir.ValLaws.{to_z-of_z, of_z-to_z}
use Rattle.products.specs.Runs.{MOST, sizes, small, products, Summed, summed_none}
use Rattle.products.proofs.Turns.{summed_back, turn_add, turn_more}
use Rattle.products.proofs.plain.Goals as goal
use Rattle.products.proofs.plain.Goals.{Start, At-loop-k}

pub loop-k-init : goal.loop-k-init
loop-k-init c = (omega arith, summed_none c.args.taps.now c.args.signal.now)

-- the sizes of as many taps as there are samples
within : (c : goal.Start) → sizes c.args.taps.now (length c.args.signal.now) ≤ MOST
unfolding small
within c =
    let e = c.requires.0 in
    rw (← e) (leb-true (sizes c.args.taps.now (length c.args.taps.now)) MOST c.requires.1)

summed : (c : goal.At-loop-k) → Summed c.args.taps.now c.args.signal.now c.loop-k.sum-bits c.loop-k.k
summed c = let e = of_z-to_z w32 c.loop-k.sum-bits c.loop-k.auto.sum in rw e at c.loop-k.invariant.1

pub overflow_add-sum : goal.overflow_add-sum
overflow_add-sum c =
    turn_add c.args.taps.now c.args.signal.now (length c.args.signal.now) (within c.before.before.before.before) c.loop-k.sum-bits c.loop-k.k (omega arith) (summed c.before.before.before) (search rules) (search rules)

pub loop-k-preserved : goal.loop-k-preserved
loop-k-preserved c =
    let h = within c.before.before.before.before in
    let i = summed c.before.before.before in
    let f = turn_add c.args.taps.now c.args.signal.now (length c.args.signal.now) h c.loop-k.sum-bits c.loop-k.k (omega arith) i (search rules) (search rules) in
    (omega arith, rw to_z-of_z (turn_more c.args.taps.now c.args.signal.now (length c.args.signal.now) h c.loop-k.sum-bits c.loop-k.k (omega arith) i (search rules) (search rules)))

pub returns : goal.returns
returns c =
    let l = c.before in
    let e : l.loop-k.k ≡ length c.args.signal.now = omega arith in
    summed_back c.args.taps.now c.args.signal.now (length c.args.signal.now) (within l.before) l.loop-k.sum-bits l.loop-k.k (omega arith) (summed l)
    ∙ ap (products c.args.taps.now c.args.signal.now) e
