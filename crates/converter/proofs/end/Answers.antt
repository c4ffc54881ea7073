-- A line that is open is a line, unless nothing stands in it.
use mathlib.Core.Path.{refl}
use native.Mathlib.Omega.{arith}
use borrow.Author.Tests.{eq-eqb, ne_eqb}
use Rattle.stream.specs.Room.{over_none, counts}
use Rattle.converter.specs.Feed.{ending}
use borrow.Author.Rules.{rules}
use Rattle.converter.proofs.end.Goals as goal

pub returns-then-line-eq0 : goal.returns-then-line-eq0
unfolding ending
returns-then-line-eq0 c =
    let s = c.args in
    rw (eq-eqb s.converter.line.n 0 (omega arith)) (record { length = refl; text = over_none s.room.now; fits = (search rules, refl) })

pub returns : goal.returns
unfolding ending
returns c =
    let s = c.args in
    let e = c.end_line.ensures in
    rw (ne_eqb s.converter.line.n 0 (λ z. omega arith)) (record { length = e.length; text = e.text; fits = counts _ _ (omega arith) })
