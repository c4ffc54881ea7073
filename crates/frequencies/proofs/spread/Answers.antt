-- By turn k the places before k are spaced, and the prior is the last of them.
use mathlib.Core.Path.{refl}
use lib.ListN.{replicate}
use lib.Ieee.{binary32, of_bits}
use Rattle.frequencies.proofs.Spacing.{spaced_first, spaced_more, spaced_end}
use Rattle.frequencies.proofs.spread.Goals as goal

pub loop-k-init : goal.loop-k-init
loop-k-init c = spaced_first c.before.args.a (replicate 10 (of_bits binary32 0)) c.larger-prior.result refl c.larger-prior.ensures

pub loop-k-preserved : goal.loop-k-preserved
loop-k-preserved c = let at = c.before.before.loop-k in spaced_more _ at.out at.prior c.larger-prior-in-loop-k.result at.k at.invariant c.before.loop-k-test.true c.larger-prior-in-loop-k.ensures

pub returns : goal.returns
returns c = let at = c.before.before.loop-k in spaced_end c.before.before.before.before.args.a at.out at.prior c.smaller.result at.k at.invariant c.before.loop-k-test.false c.smaller.ensures
