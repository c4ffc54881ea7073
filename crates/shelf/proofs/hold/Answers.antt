-- A refusal at each step, or the record that is written.
use Rattle.std.proofs.Common.{sym, ap, ◌∙◌, List}
use Rattle.std.proofs.lemmas.Result.{err_from_is_err_and}
use Rattle.slots.specs.declared.Slot.{Slot}
use Rattle.slot_users.specs.Users.{refuse, hold_lent}
use Rattle.shelf.specs.Shelf.{hold}
use Rattle.shelf.specs.Cases.{judged_lent}
use Rattle.shelf.specs.Answers.{is_sixteen, not_sixteen, done_not, done_yes}
use Rattle.shelf.proofs.hold.Goals as goal

pub returns-in_err-sixteen : goal.returns-in_err-sixteen
unfolding hold
returns-in_err-sixteen c =
    let p = err_from_is_err_and c.from_residual.result c.from_residual.ensures.1 in
    rw (p.1, p.2) (done_not _ _ _ (not_sixteen _ _ refuse _ _ (sym c.in_err-sixteen.ensures)))

pub returns-in_err-change : goal.returns-in_err-change
unfolding hold
returns-in_err-change c =
    let p = err_from_is_err_and c.from_residual-in_err-change.result c.from_residual-in_err-change.ensures.1 in
    let h = is_sixteen _ _ _ (sym c.in_ok-sixteen.ensures) in
    let k = c.args.slot in
    rw (p.1, p.2) (done_not _ _ _ (judged_lent _ _ refuse _ h.1 ∙ ap (λ (l : List Slot). hold_lent l k) (sym h.0) ∙ sym c.in_err-change.ensures))

pub returns : goal.returns
unfolding hold
returns c =
    let h = is_sixteen _ _ _ (sym c.in_ok-sixteen.ensures) in
    let k = c.args.slot in
    done_yes _ _ _ _ _ (judged_lent _ _ refuse _ h.1 ∙ ap (λ (l : List Slot). hold_lent l k) (sym h.0) ∙ sym c.in_ok-change.ensures) c.put.ensures
