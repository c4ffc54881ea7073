use mir.Syntax.{w64}
use Rattle.fixed.specs.Machine.{back}
use Rattle.fixed.specs.Bounds.{abs_acc}
use Rattle.replay.proofs.of_fixed.divided.Goals as goal

pub restoring_divide-requires : goal.restoring_divide-requires
restoring_divide-requires c = rw (back w64 c.acc.result c.acc.type_inv) (rw c.acc.ensures (abs_acc _))
