-- The loop holds the division after as many steps, which is below twice the divisor.
use native.Mathlib.Omega.{arith}
use native.Mathlib.Numerals.{add-one}
use borrow.Author.Rules.{rules}
use mathlib.Core.Path.{◌≡◌, ◌∙◌}
use mir.Syntax.{w16, w32}
use mir.Val.{to_z}
use mir.ValLaws.{to_z-of_z}
use Rattle.sequence.specs.Repeated.{repeated}
use Rattle.fixed.specs.Fixed as Fixed
use Rattle.fixed.specs.Machine.{back}
use Rattle.reciprocal.specs.Narrow.{divide_below}
use Rattle.reciprocal.proofs.narrow_divide.Goals as goal
use Rattle.reciprocal.proofs.narrow_divide.Goals.{At-loop}

-- the loop's number, after k steps
n_back : (c : goal.At-loop) → to_z w32 c.loop.n-bits ≡ Fixed.restoring_divide c.args.num c.args.den c.loop.counter
n_back c = simp (to_z-of_z w32 c.args.num c.ranges.num, to_z-of_z w16 c.args.den c.ranges.den) at c.loop.invariant.1

pub loop-init : goal.loop-init
unfolding Fixed.restoring_divide repeated
loop-init c = (omega arith, search rules)

pub narrow_step-n-requires : goal.narrow_step-n-requires
narrow_step-n-requires c = rw (n_back c.before, to_z-of_z w16 c.args.den c.ranges.den) (divide_below c.args.num c.args.den c.loop.counter c.requires)

pub loop-preserved : goal.loop-preserved
unfolding Fixed.restoring_divide repeated
loop-preserved c =
    let a = to_z-of_z w32 c.args.num c.ranges.num in
    let b = to_z-of_z w16 c.args.den c.ranges.den in
    (omega arith, simp (a, b, add-one c.loop.counter) (back w32 c.narrow_step-n.result c.narrow_step-n.type_inv ∙ simp (n_back c.before.before, b) at c.narrow_step-n.ensures))

pub returns : goal.returns
returns c =
    let e : c.loop.counter ≡ c.args.steps = omega arith in
    rw (← e) (n_back c.before)
