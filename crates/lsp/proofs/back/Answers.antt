-- Each call's result as it is defined; the negation is of 32 bits, in 64.
use native.Mathlib.Omega.{arith}
use mathlib.Core.Path.{◌≡◌}
use lib.IntN.{neg_ℤ}
use mir.Syntax.{w16, w32, w64}
use mir.Val.{SFits}
use mir.ValLaws.{to_z-of_z}
use Rattle.fixed.specs.Fixed as Fixed
use Rattle.fixed.specs.Abs.{abs_neg, minus_is}
use Rattle.fixed.specs.Machine.{back, widens, widened, sfits_abs, abs_sfits}
use Rattle.lsp.specs.Lsp as Lsp
use Rattle.lsp.proofs.back.Goals as goal
use Rattle.lsp.proofs.back.Goals.{Start}

fits : (c : goal.Start) → SFits w64 (neg_ℤ c.args.m)
fits c = sfits_abs w64 _ (omega (arith, abs_neg c.args.m, abs_sfits w32 c.args.m c.ranges.m))

pub overflow_cast-p : goal.overflow_cast-p
overflow_cast-p c = widens tt c.ranges.p

pub overflow_cast-m : goal.overflow_cast-m
overflow_cast-m c = widens tt c.ranges.m

pub overflow_sub-m : goal.overflow_sub-m
overflow_sub-m c = simp (widened tt c.ranges.m, minus_is c.args.m) (fits c)

pub returns : goal.returns
unfolding Lsp.back
returns c =
    let s = c.before.before in
    let f : c.before.fold.result ≡ Fixed.fold s.args.p (neg_ℤ s.args.m) = simp (widened tt s.ranges.p, widened tt s.ranges.m, minus_is s.args.m, to_z-of_z w64 _ (fits s)) at c.before.fold.ensures in
    cc (back w64 c.before.fold.result c.before.fold.type_inv, back w16 c.halved.result c.halved.type_inv)
