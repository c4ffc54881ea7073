-- In 64 bits the negation does not wrap, and 16 bits keep what 64 hold.
use native.Mathlib.Omega.{arith}
use mathlib.Core.Path.{◌∙◌}
use lib.IntN.{neg_ℤ}
use mir.Syntax.{w16, w64}
use mir.Val.{SFits}
use mir.ValLaws.{to_z-of_z}
use Rattle.fixed.specs.Abs.{abs_neg, minus_is}
use Rattle.fixed.specs.Machine.{back, widens, widened, sfits_abs, abs_sfits}
use Rattle.lsp.specs.Lsp as Lsp
use Rattle.lsp.proofs.negated.Goals as goal
use Rattle.lsp.proofs.negated.Goals.{Start}

fits : (c : goal.Start) → SFits w64 (neg_ℤ c.args.x)
fits c = sfits_abs w64 _ (omega (arith, abs_neg c.args.x, abs_sfits w16 c.args.x c.ranges.x))

pub overflow_cast-x : goal.overflow_cast-x
overflow_cast-x c = widens tt c.ranges.x

pub overflow_sub-x : goal.overflow_sub-x
overflow_sub-x c = simp (widened tt c.ranges.x, minus_is c.args.x) (fits c)

pub returns : goal.returns
unfolding Lsp.negated
returns c =
    let s = c.before in
    back w16 c.low.result c.low.type_inv ∙ simp (widened tt s.ranges.x, minus_is s.args.x, to_z-of_z w64 _ (fits s)) at c.low.ensures
