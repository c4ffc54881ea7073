-- The sum fits, so neither the machine nor the accumulator wraps it.
use native.Mathlib.Omega.{arith}
use mathlib.Core.Path.{◌∙◌, sym}
use lib.IntN.{◌+ℤ◌}
use mir.Syntax.{w32}
use mir.Val.{SFits}
use mir.ValLaws.{to_z-of_z}
use Rattle.fixed.specs.Fixed as Fixed
use Rattle.fixed.specs.Wrap.{acc_fits}
use Rattle.fixed.specs.Machine.{sfits_abs}
use Rattle.fixed.proofs.fold_narrow.Goals as goal
use Rattle.fixed.proofs.fold_narrow.Goals.{Start}

fits : (c : goal.Start) → SFits w32 (c.args.sum +ℤ c.args.term)
fits c = sfits_abs w32 _ (omega (arith, c.requires))

pub overflow_add-result : goal.overflow_add-result
overflow_add-result c = simp (to_z-of_z w32 c.args.sum c.ranges.sum, to_z-of_z w32 c.args.term c.ranges.term) (fits c)

pub returns : goal.returns
unfolding Fixed.fold
returns c =
    simp (to_z-of_z w32 c.args.sum c.ranges.sum, to_z-of_z w32 c.args.term c.ranges.term) (to_z-of_z w32 _ (fits c))
    ∙ sym (acc_fits (c.args.sum +ℤ c.args.term) (omega (arith, c.requires)))
