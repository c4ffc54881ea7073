-- A digit a turn, to its own place.
use mathlib.Core.Path.{refl}
use native.Mathlib.Omega.{arith}
use borrow.Author.Rules.{rules}
use Rattle.sequence.specs.Table.{table}
use Rattle.receiver.specs.Receiver as Receiver
use Rattle.receiver.proofs.Walk.{putting_none, putting_more, putting_end}
use Rattle.receiver.proofs.bits_of.Goals as goal

pub loop-j-init : goal.loop-j-init
unfolding Receiver.order table
loop-j-init c = (refl, putting_none _)

pub bounds-out-i : goal.bounds-out-i
bounds-out-i c =
    omega (arith, c.place-i.ensures.bit)

pub loop-j-preserved : goal.loop-j-preserved
loop-j-preserved c =
    let l = c.loop-j in
    (l.invariant.0, putting_more l.invariant.1 (search rules) (omega arith) c.place-i.ensures.value (rw c.inverted.ensures.0))

pub returns : goal.returns
returns c = putting_end c.loop-j.invariant.1 c.loop-j-test.false
