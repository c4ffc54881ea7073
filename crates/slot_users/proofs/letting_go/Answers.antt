use mathlib.Core.Path.{sym, ap}
use native.Mathlib.Omega.{arith}
use Rattle.std.proofs.lemmas.Result.{err_from_is_err_and}
use Rattle.slots.specs.declared.Slot.{Slot}
use Rattle.slot_users.specs.Users.{let_go_lent}
use Rattle.slot_users.specs.Held.{not_held, is_held, held_means}
use Rattle.slot_users.proofs.letting_go.Goals as goal

pub returns-in_err-s : goal.returns-in_err-s
unfolding let_go_lent
returns-in_err-s c =
    let p = err_from_is_err_and c.from_residual.result c.from_residual.ensures.1 in
    rw (p.1, p.2) (sym (not_held _ _ _ _ _ (sym c.in_err-s.ensures)))

pub overflow_sub-fewer : goal.overflow_sub-fewer
overflow_sub-fewer c =
    let h = held_means _ _ _ (sym c.in_ok-s.ensures) in
    let u = ap (λ (s : Slot). s.users) h.1 in
    let z = h.2 in
    omega arith

pub returns : goal.returns
unfolding let_go_lent
returns c =
    let h = held_means _ _ _ (sym c.in_ok-s.ensures) in
    rw (is_held _ _ _ _ _ (sym c.in_ok-s.ensures), ← h.1)
