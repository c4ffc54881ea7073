-- Each call's result as it is defined; the negation is of 32 bits, in 64.
use borrow.Author.Rules.{rules}
use native.Mathlib.Omega.{arith}
use mathlib.Core.Path.{◌≡◌}
use Prim.Native.Nat.{◌-◌}
use lib.IntN.{ℤ, pos, neg_ℤ}
use lib.ListN.{get_or}
use mir.Syntax.{w32, w64}
use mir.Val.{SFits}
use mir.ValLaws.{to_z-of_z}
use Rattle.fixed.specs.Fixed as Fixed
use Rattle.fixed.specs.Abs.{abs_neg, minus_is}
use Rattle.fixed.specs.Machine.{back, widens, widened, sfits_abs, abs_sfits}
use Rattle.lsp.specs.Lsp as Lsp
use Rattle.lsp.proofs.minus.Goals as goal
use Rattle.lsp.proofs.minus.Goals.{After-fold-arg-1, After-fold-arg-2-1, Start}

x_fits : (c : goal.After-fold-arg-1) → SFits w32 (get_or c.before.args.f c.before.args.i (pos 0))
x_fits c = record { sfits = (search rules) }

pub overflow_cast-f : goal.overflow_cast-f
overflow_cast-f c = widens tt (x_fits c)

module _ (c : goal.After-fold-arg-2-1) where
  abbrev s : goal.Start
  s = c.before.before

  abbrev x : ℤ
  x = get_or s.args.f s.args.i (pos 0)

  abbrev y : ℤ
  y = get_or s.args.f (s.args.i - 1) (pos 0)

  y_fits : SFits w32 y
  y_fits = record { sfits = (search rules) }

  minus_fits : SFits w64 (neg_ℤ y)
  minus_fits = sfits_abs w64 _ (omega (arith, abs_neg y, abs_sfits w32 y y_fits))

pub overflow_cast-f-2 : goal.overflow_cast-f-2
overflow_cast-f-2 c = widens tt (y_fits c)

pub overflow_sub-f : goal.overflow_sub-f
overflow_sub-f c = simp (widened tt (y_fits c), minus_is (y c)) (minus_fits c)

pub returns : goal.returns
unfolding Lsp.minus
returns c =
    let k = c.before.before in
    let f : c.before.fold.result ≡ Fixed.fold (x k) (neg_ℤ (y k)) = simp (widened tt (x_fits k.before), widened tt (y_fits k), minus_is (y k), to_z-of_z w64 _ (minus_fits k)) at c.before.fold.ensures in
    cc (back w64 c.before.fold.result c.before.fold.type_inv, back w32 c.stored.result c.stored.type_inv)
