-- A refusal at each step, or the state that is read.
use Rattle.std.proofs.Common.{sym, ap, ◌∙◌}
use Rattle.std.proofs.lemmas.Result.{err_from_is_err_and}
use Rattle.state.specs.State.{obeys}
use Rattle.slot_users.specs.Held.{is_held, not_held, held_means}
use Rattle.shelf.specs.Shelf.{fetch, fetch_lent, not_fetched}
use Rattle.shelf.specs.Cases.{judged_lent, lent_means}
use Rattle.shelf.specs.Answers.{is_sixteen, not_sixteen}
use Rattle.shelf.proofs.fetch.Goals as goal

pub returns-in_err-sixteen : goal.returns-in_err-sixteen
unfolding fetch
returns-in_err-sixteen c =
    let p = err_from_is_err_and c.from_residual.result c.from_residual.ensures.1 in
    rw (p.1, p.2) (sym (not_sixteen _ _ not_fetched _ _ (sym c.in_err-sixteen.ensures)))

pub returns-in_err-held : goal.returns-in_err-held
unfolding fetch fetch_lent
returns-in_err-held c =
    let p = err_from_is_err_and c.from_residual-in_err-held.result c.from_residual-in_err-held.ensures.1 in
    let h = is_sixteen _ _ _ (sym c.in_ok-sixteen.ensures) in
    rw (p.1, p.2) (sym (judged_lent _ _ not_fetched _ h.1 ∙ rw (← h.0) (not_held _ _ _ _ _ (sym c.in_err-held.ensures))))

pub load-state-requires : goal.load-state-requires
load-state-requires c =
    let h = is_sixteen _ _ _ (sym c.in_ok-sixteen.ensures) in
    record { fact_1 = (lent_means _ _ h.1).1; fact_2 = (held_means _ _ _ (sym c.in_ok-held.ensures)).0 }

pub returns-then-obeys : goal.returns-then-obeys
unfolding fetch fetch_lent
returns-then-obeys c =
    let h = is_sixteen _ _ _ (sym c.in_ok-sixteen.ensures) in
    let o = ap obeys (sym c.load-state.ensures) ∙ sym c.obeys.ensures ∙ c.if-obeys.true in
    sym (judged_lent _ _ not_fetched _ h.1 ∙ rw (← h.0, is_held _ _ _ _ _ (sym c.in_ok-held.ensures), o, ← c.load-state.ensures))

pub returns-else-obeys : goal.returns-else-obeys
unfolding fetch fetch_lent
returns-else-obeys c =
    let h = is_sixteen _ _ _ (sym c.in_ok-sixteen.ensures) in
    let o = ap obeys (sym c.load-state.ensures) ∙ sym c.obeys.ensures ∙ c.if-obeys.false in
    sym (judged_lent _ _ not_fetched _ h.1 ∙ rw (← h.0, is_held _ _ _ _ _ (sym c.in_ok-held.ensures), o))
