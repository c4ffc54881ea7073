-- A refusal at each step, or the slot that is taken.
use Rattle.std.proofs.Common.{◌≡◌, sym, ap, ◌∙◌, List, ℕ, Err}
use Rattle.std.specs.Prelude.{Option, Result}
use Rattle.std.specs.Option.{ok_or}
use Rattle.refusal.specs.declared.Refusal.{Refusal}
use Rattle.refusal.specs.declared.Refusal.TheVariants.{SlotFull}
use Rattle.std.proofs.lemmas.Result.{err_from_is_err_and}
use Rattle.slots.specs.declared.Slot.{Slot}
use Rattle.slot_users.specs.Users.{refuse, change}
use Rattle.slot_users.specs.Held.{some_means, none_means}
use Rattle.shelf.specs.Shelf.{save, save_lent}
use Rattle.shelf.specs.Cases.{judged_lent, lent_means, save_full, save_broken, save_taken}
use Rattle.shelf.specs.Answers.{is_sixteen, not_sixteen, saved_not, saved_yes}
use Rattle.shelf.proofs.save.Goals as goal

pub returns-in_err-sixteen : goal.returns-in_err-sixteen
unfolding save
returns-in_err-sixteen c =
    let p = err_from_is_err_and c.from_residual.result c.from_residual.ensures.1 in
    rw (p.1, p.2) (saved_not _ _ _ _ _ (not_sixteen _ _ refuse _ _ (sym c.in_err-sixteen.ensures)))

pub returns-in_err-k : goal.returns-in_err-k
unfolding save
returns-in_err-k c =
    let p = err_from_is_err_and c.from_residual-in_err-k.result c.from_residual-in_err-k.ensures.1 in
    let h = is_sixteen _ _ _ (sym c.in_ok-sixteen.ensures) in
    let e = c.in_err-k.ensures in
    let n = none_means _ (sym c.free.ensures ∙ e.ok_part) in
    let v : ◌≡◌ {A = Result ℕ Refusal} (Err c.in_err-k.field-0.0) (Err SlotFull) = e.value ∙ ap (λ (o : Option ℕ). ok_or o SlotFull) e.ok_part in
    let w : c.in_err-k.field-0.0 ≡ SlotFull = cc in
    let s = c.args.state in
    let f = c.args.frame in
    rw (p.1, p.2, w) (saved_not _ _ _ _ _ (judged_lent _ _ refuse _ h.1 ∙ ap (λ (l : List Slot). save_lent l s f) (sym h.0) ∙ save_full _ _ _ n))

pub returns-then-not-obeys : goal.returns-then-not-obeys
unfolding save
returns-then-not-obeys c =
    let h = is_sixteen _ _ _ (sym c.in_ok-sixteen.ensures) in
    let i = some_means _ _ (sym c.free.ensures ∙ c.in_ok-k.ensures.ok_part) in
    let s = c.args.state in
    let f = c.args.frame in
    saved_not _ _ _ _ _ (judged_lent _ _ refuse _ h.1 ∙ ap (λ (l : List Slot). save_lent l s f) (sym h.0) ∙ save_broken _ _ _ i.1 (sym c.obeys.ensures ∙ c.if-not-obeys.true))

pub store-requires-clause-fact_1 : goal.store-requires-clause-fact_1
store-requires-clause-fact_1 c = (lent_means _ _ (is_sixteen _ _ _ (sym c.in_ok-sixteen.ensures)).1).1

pub returns : goal.returns
unfolding save
returns c =
    let h = is_sixteen _ _ _ (sym c.in_ok-sixteen.ensures) in
    let i = some_means _ _ (sym c.free.ensures ∙ c.in_ok-k.ensures.ok_part) in
    let s = c.args.state in
    let f = c.args.frame in
    saved_yes _ _ _ _ _ _ _ _ (judged_lent _ _ refuse _ h.1 ∙ ap (λ (l : List Slot). save_lent l s f) (sym h.0) ∙ save_taken _ _ _ i.1 (sym c.obeys.ensures ∙ c.if-not-obeys.false) ∙ ap (λ (k : ℕ). change k (record { users = 1; frame = f })) (sym i.0)) c.put.ensures c.store.ensures
