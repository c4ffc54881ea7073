-- Each call's result as it is defined; a 16-bit number times 1024 is within 64 bits.
use native.Mathlib.Omega.{arith}
use mathlib.Core.Path.{◌≡◌}
use lib.IntN.{pos, ◌*ℤ◌}
use mir.Syntax.{w16, w32, w64}
use mir.Val.{SFits}
use mir.ValLaws.{to_z-of_z}
use Rattle.fixed.specs.Fixed as Fixed
use Rattle.fixed.specs.Abs.{abs_mul_le}
use Rattle.fixed.specs.Machine.{back, widens, widened, sfits_abs, abs_sfits}
use Rattle.lsp.specs.Lsp as Lsp
use Rattle.lsp.proofs.linear.Goals as goal
use Rattle.lsp.proofs.linear.Goals.{Start}

fits : (c : goal.Start) → SFits w64 (c.args.l *ℤ pos 1024)
fits c = sfits_abs w64 _ (omega (arith, abs_mul_le c.args.l (pos 1024) 32768 1024 (abs_sfits w16 c.args.l c.ranges.l) (omega arith)))

pub overflow_cast-x : goal.overflow_cast-x
overflow_cast-x c = widens tt c.ranges.x

pub overflow_cast-l : goal.overflow_cast-l
overflow_cast-l c = widens tt c.ranges.l

pub overflow_mul-l : goal.overflow_mul-l
overflow_mul-l c = simp (widened tt c.ranges.l) (fits c)

pub returns : goal.returns
unfolding Lsp.linear
returns c =
    let s = c.before.before in
    let f : c.before.fold.result ≡ Fixed.fold s.args.x (s.args.l *ℤ pos 1024) = simp (widened tt s.ranges.x, widened tt s.ranges.l, to_z-of_z w64 _ (fits s)) at c.before.fold.ensures in
    cc (back w64 c.before.fold.result c.before.fold.type_inv, back w32 c.stored.result c.stored.type_inv)
