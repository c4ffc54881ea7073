-- The sum so far is the total of the log gains passed.
use mathlib.Core.Path.{refl, ap}
use native.Mathlib.Omega.{arith}
use lib.Ieee.{Float}
use Rattle.sequence.specs.Total.{total, total_again, total_end}
use Rattle.tables.specs.Tables.{log_gain}
use Rattle.elementary.specs.Elementary.{bits, add, div}
use Rattle.gain.specs.Gain.{mean}
use Rattle.gain_state.proofs.mean.Goals as goal

pub loop-i-init : goal.loop-i-init
unfolding total
loop-i-init c = (omega arith, refl)

pub loop-i-preserved : goal.loop-i-preserved
loop-i-preserved c =
    let at = c.loop-i in
    (omega arith, total_again add (bits 0) (log_gain c.args.bytes.now) at.i at.invariant.1 (ap (λ (x : Float). add at.t x) c.log_gain-t.ensures))

pub returns : goal.returns
unfolding mean
returns c = let at = c.loop-i in ap (λ (x : Float). div x (bits 0x4300_0000)) (total_end add (bits 0) (log_gain c.args.bytes.now) at.invariant.0 c.loop-i-test.false at.invariant.1)
