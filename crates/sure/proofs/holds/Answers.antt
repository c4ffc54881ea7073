-- From 2 on it holds.
use Rattle.std.proofs.lemmas.Bool.Decides.{nat_tests}
use native.Mathlib.Omega.{arith}
use Rattle.sure.specs.Sure.{holds}
use Rattle.sure.proofs.holds.Goals as goal

pub returns : goal.returns
unfolding holds
returns c = grind (arith, nat_tests)
