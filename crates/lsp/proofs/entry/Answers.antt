-- The lesser of two numbers is chosen as the definition chooses.
use Rattle.std.proofs.lemmas.Bool.Decides.{nat_tests}
use native.Mathlib.Omega.{arith}
use Rattle.lsp.specs.Lsp as Lsp
use Rattle.lsp.proofs.entry.Goals as goal

pub returns : goal.returns
unfolding Lsp.entry
returns c = grind (arith, nat_tests)
