-- The fields are within their widths.
use Rattle.observation.specs.Frame.{residual}
use Rattle.frame.proofs.residual.Goals as goal

pub returns : goal.returns
unfolding residual
returns c = rw (c.residual.ensures, c.from.ensures, c.from-2.ensures, c.from-3.ensures)
