use mathlib.Core.Path.{sym}
use Rattle.std.proofs.lemmas.Result.{err_from_is_err_and}
use Rattle.slot_users.specs.Users.{hold_lent}
use Rattle.slot_users.specs.Held.{not_held, is_held, held_means}
use Rattle.slot_users.proofs.holding.Goals as goal
use borrow.Author.Tests.{ne_eqb}

pub returns-in_err-s : goal.returns-in_err-s
unfolding hold_lent
returns-in_err-s c =
    let p = err_from_is_err_and c.from_residual.result c.from_residual.ensures.1 in
    rw (p.1, p.2) (sym (not_held _ _ _ _ _ (sym c.in_err-s.ensures)))

pub returns-then-s : goal.returns-then-s
unfolding hold_lent
returns-then-s c =
    let h = held_means _ _ _ (sym c.in_ok-s.ensures) in
    let u = c.if-s.true in
    rw (is_held _ _ _ _ _ (sym c.in_ok-s.ensures), ← h.1, u)

pub returns : goal.returns
unfolding hold_lent
returns c =
    let h = held_means _ _ _ (sym c.in_ok-s.ensures) in
    rw (is_held _ _ _ _ _ (sym c.in_ok-s.ensures), ← h.1, ne_eqb _ _ c.if-s.false)
