-- Below 2 it is one more.
use native.Mathlib.Omega.{arith}
use Rattle.calls.specs.Celp.{raised}
use Rattle.answers.proofs.raised.Goals as goal

pub returns : goal.returns
unfolding raised
returns c = omega arith
