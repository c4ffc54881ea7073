-- What 32 bits keep fits them.
use mathlib.Core.Path.{◌≡◌, ◌∙◌}
use mir.Syntax.{w32, w64}
use mir.Val.{to_z, of_z}
use mir.ValLaws.{to_z-of_z}
use Rattle.fixed.specs.Fixed as Fixed
use Rattle.fixed.specs.Machine.{back, wrap_sfits}
use Rattle.lsp.proofs.stored.Goals as goal
use Rattle.lsp.proofs.stored.Goals.{After-trunc32}

t_is : (c : goal.After-trunc32) → to_z w64 (of_z w64 c.trunc32.result) ≡ Fixed.trunc32 c.before.args.v
t_is c = back w64 c.trunc32.result c.trunc32.type_inv ∙ simp (to_z-of_z w64 _ c.before.ranges.v) at c.trunc32.ensures

pub overflow_cast-result : goal.overflow_cast-result
overflow_cast-result c = rw (t_is c) (wrap_sfits w32 32 c.before.args.v tt)

pub returns : goal.returns
returns c = rw (t_is c) (to_z-of_z w32 _ (wrap_sfits w32 32 c.before.args.v tt))
