use Rattle.convert.specs.Halves.{digit_at}
use Rattle.convert.proofs.digit_at.Goals as goal

pub returns : goal.returns
unfolding digit_at
returns c = rw (c.digit.ensures, c.half.ensures.value)
