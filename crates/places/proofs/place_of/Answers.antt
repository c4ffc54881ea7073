-- By each line the place is that of the frame that is counted.
use borrow.Author.Rules.{rules}
use mathlib.Core.Path.{◌≡◌}
use native.Mathlib.Omega.{arith}
use Rattle.places.specs.Places.{start_at, at_more, at_past}
use Rattle.places.proofs.place_of.Goals as goal

pub loop-n-init : goal.loop-n-init
loop-n-init c = (omega arith, rw c.start_of-a.ensures (start_at _))

pub returns-then-recording-a : goal.returns-then-recording-a
returns-then-recording-a c =
    at_past _ _ _ c.loop-n.invariant.1 c.if-recording-a.true _ c.loop-n.invariant.0

pub line_end-requires : goal.line_end-requires
line_end-requires c = c.loop-n.invariant.1.within

pub behind-a-requires : goal.behind-a-requires
behind-a-requires c = c.line_end.ensures.within

pub loop-n-preserved : goal.loop-n-preserved
loop-n-preserved c =
    (search rules, at_more _ _ _ c.loop-n.invariant.1 c.if-recording-a.false _ _ c.line_end.ensures.end c.behind-a.ensures)

pub returns : goal.returns
returns c =
    let l = c.loop-n-test.false in
    let m = c.loop-n.invariant.0 in
    let e : c.loop-n.n ≡ c.args.k = omega arith in
    rw e at c.loop-n.invariant.1
