-- By each frame what is left up to k gives what is looked for.
use borrow.Author.Rules.{rules}
use native.Mathlib.Omega.{arith}
use Rattle.forward.specs.Gone.{gone_none, gone_more, gone_all, gone_end}
use Rattle.forward.proofs.forward.Goals as goal

pub loop-n-init : goal.loop-n-init
loop-n-init c = gone_none _ _ _ _ _ _ _ c.place_of-a.ensures

pub returns-then-recording-a : goal.returns-then-recording-a
returns-then-recording-a c = gone_end _ _ _ c.loop-n.invariant c.if-recording-a.true

pub line_end-e-requires : goal.line_end-e-requires
line_end-e-requires c = c.loop-n.invariant.at.within

pub slice_bounds-held-count : goal.slice_bounds-held-count
slice_bounds-held-count c = let e = c.line_end-e.ensures.end in omega arith

pub slice_bounds-held-start : goal.slice_bounds-held-start
slice_bounds-held-start c = let e = c.line_end-e.ensures.end in let w = c.line_end-e.ensures.within in omega arith

pub slice_bounds-held-end : goal.slice_bounds-held-end
slice_bounds-held-end c = let w = c.line_end-e.ensures.within in search rules

pub behind-a-requires : goal.behind-a-requires
behind-a-requires c = c.line_end-e.ensures.within

pub loop-n-preserved : goal.loop-n-preserved
loop-n-preserved c =
    gone_more _ _ _ c.loop-n.invariant c.loop-n-test.true c.if-recording-a.false _ _ _ c.line_end-e.ensures.end c.behind-a.ensures (rw (← c.held.ensures) c.line_step-s.ensures)

pub returns : goal.returns
returns c = gone_all _ _ _ c.loop-n.invariant c.loop-n-test.false
