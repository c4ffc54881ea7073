-- Each call's result as it is defined.
use borrow.Author.Rules.{rules}
use Prim.Native.Nat.{◌-◌}
use lib.IntN.{ℤ, pos}
use lib.ListN.{get_or}
use mir.Syntax.{w32, w64}
use mir.Val.{SFits}
use Rattle.fixed.specs.Machine.{back, widens, widened}
use Rattle.lsp.specs.Lsp as Lsp
use Rattle.lsp.proofs.plus.Goals as goal
use Rattle.lsp.proofs.plus.Goals.{After-fold-arg-1, After-fold-arg-2-1, Start}

x_fits : (c : goal.After-fold-arg-1) → SFits w32 (get_or c.before.args.f c.before.args.i (pos 0))
x_fits c = record { sfits = (search rules) }

pub overflow_cast-f : goal.overflow_cast-f
overflow_cast-f c = widens tt (x_fits c)

module _ (c : goal.After-fold-arg-2-1) where
  abbrev s : goal.Start
  s = c.before.before

  abbrev y : ℤ
  y = get_or s.args.f (s.args.i - 1) (pos 0)

  y_fits : SFits w32 y
  y_fits = record { sfits = (search rules) }

pub overflow_cast-f-2 : goal.overflow_cast-f-2
overflow_cast-f-2 c = widens tt (y_fits c)

pub returns : goal.returns
unfolding Lsp.plus
returns c =
    let k = c.before.before in
    cc (widened tt (x_fits k.before), widened tt (y_fits k), back w64 c.before.fold.result c.before.fold.type_inv, back w32 c.stored.result c.stored.type_inv)
