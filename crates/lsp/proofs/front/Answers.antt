-- Each call's result as it is defined.
use mir.Syntax.{w16, w64}
use Rattle.fixed.specs.Machine.{back, widens, widened}
use Rattle.lsp.specs.Lsp as Lsp
use Rattle.lsp.proofs.front.Goals as goal

pub overflow_cast-p : goal.overflow_cast-p
overflow_cast-p c = widens tt c.ranges.p

pub overflow_cast-m : goal.overflow_cast-m
overflow_cast-m c = widens tt c.ranges.m

pub returns : goal.returns
unfolding Lsp.front
returns c =
    let f = c.before.before.ranges in
    cc (widened tt f.p, widened tt f.m, back w64 c.before.fold.result c.before.fold.type_inv, back w16 c.halved.result c.halved.type_inv)
