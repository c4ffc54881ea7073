use Rattle.sequence.specs.Mapped.{Mapped}
use Rattle.output_filter.specs.Postfilter.{scaled}
use Rattle.scaling.proofs.scale.Given as goal

abbrev pub invariant-loop-x : goal.invariant-loop-x
invariant-loop-x l = Mapped scaled l.initial.block l.block l.x-index
