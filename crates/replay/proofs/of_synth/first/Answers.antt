use native.Mathlib.Omega.{arith}
use mathlib.Core.Path.{sym}
use lib.Seq.{length-take-le}
use Rattle.replay.proofs.of_synth.first.Goals as goal

pub slice_bounds-filtered-end : goal.slice_bounds-filtered-end
slice_bounds-filtered-end c = sym (length-take-le _ _ (omega arith))

pub slice_bounds-filtered-end-3 : goal.slice_bounds-filtered-end-3
slice_bounds-filtered-end-3 c = sym (length-take-le _ _ (omega arith))
