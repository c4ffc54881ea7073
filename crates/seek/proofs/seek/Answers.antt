-- The refusals in their order, then forward from the save.
use Rattle.std.proofs.Common.{◌≡◌, sym, ap, ◌∙◌, ℕ, Ok, Err, refl}
use Rattle.std.specs.Prelude.{Option, Result}
use Rattle.std.specs.Option.{ok_or}
use Rattle.std.proofs.lemmas.Result.{err_from_is_err_and}
use Rattle.refusal.specs.declared.Refusal.{Refusal}
use Rattle.refusal.specs.declared.Refusal.TheVariants.{NoFrame}
use Rattle.slot_users.specs.Held.{some_means, none_means}
use Rattle.shelf.specs.Shelf.{fetch}
use Rattle.shelf.specs.Cases.{judged_lent}
use Rattle.shelf.specs.Answers.{is_sixteen, not_sixteen}
use Rattle.seek.specs.Seek.{not_sought, seek}
use Rattle.seek.proofs.Steps.{none_held, no_frame, set_refused, set_accepted, broken, goes}
use Rattle.seek.proofs.seek.Goals as goal

pub returns-in_err-sixteen : goal.returns-in_err-sixteen
unfolding seek
returns-in_err-sixteen c =
    let p = err_from_is_err_and c.from_residual.result c.from_residual.ensures.1 in
    rw (p.1, p.2) (sym (not_sixteen _ _ not_sought _ _ (sym c.in_err-sixteen.ensures)))

pub returns-in_err-b : goal.returns-in_err-b
unfolding seek
returns-in_err-b c =
    let p = err_from_is_err_and c.from_residual-in_err-b.result c.from_residual-in_err-b.ensures.1 in
    let h = is_sixteen _ _ _ (sym c.in_ok-sixteen.ensures) in
    let e = c.in_err-b.ensures in
    let n = none_means _ (sym c.best.ensures ∙ e.ok_part) in
    let v : ◌≡◌ {A = Result ℕ Refusal} (Err c.in_err-b.field-0.0) (Err NoFrame) = e.value ∙ ap (λ (o : Option ℕ). ok_or o NoFrame) e.ok_part in
    let w : c.in_err-b.field-0.0 ≡ NoFrame = cc in
    rw (p.1, p.2, w) (sym (judged_lent _ _ not_sought _ h.1 ∙ rw (← h.0) (none_held _ _ _ _ _ _ n)))

pub returns-then-not-has_frame : goal.returns-then-not-has_frame
unfolding seek
returns-then-not-has_frame c =
    let h = is_sixteen _ _ _ (sym c.in_ok-sixteen.ensures) in
    let i = some_means _ _ (sym c.best.ensures ∙ c.in_ok-b.ensures.ok_part) in
    sym (judged_lent _ _ not_sought _ h.1 ∙ rw (← h.0) (no_frame _ _ _ _ _ _ i.1 (sym c.has_frame.ensures ∙ c.if-not-has_frame.true)))

pub returns-in_err-check : goal.returns-in_err-check
unfolding seek
returns-in_err-check c =
    let p = err_from_is_err_and c.from_residual-in_err-check.result c.from_residual-in_err-check.ensures.1 in
    let h = is_sixteen _ _ _ (sym c.in_ok-sixteen.ensures) in
    let i = some_means _ _ (sym c.best.ensures ∙ c.in_ok-b.ensures.ok_part) in
    rw (p.1, p.2) (sym (judged_lent _ _ not_sought _ h.1 ∙ rw (← h.0) (sym (set_refused _ _ _ _ _ _ i.1 (sym c.has_frame.ensures ∙ c.if-not-has_frame.false) _ c.in_err-check.ensures))))

pub returns-in_err-state : goal.returns-in_err-state
unfolding seek
returns-in_err-state c =
    let a = c.args in
    let p = err_from_is_err_and c.from_residual-in_err-state.result c.from_residual-in_err-state.ensures.1 in
    let h = is_sixteen _ _ _ (sym c.in_ok-sixteen.ensures) in
    let i = rw h.0 at (some_means _ _ (sym c.best.ensures ∙ c.in_ok-b.ensures.ok_part)) in
    let f = c.in_err-state.ensures ∙ ap (fetch a.slots.now a.images.now) i.0 in
    rw (p.1, p.2) (sym (judged_lent _ _ not_sought _ h.1 ∙ set_accepted _ _ _ _ _ _ i.1 (sym c.has_frame.ensures ∙ c.if-not-has_frame.false) (sym c.in_ok-check.ensures)
    ∙ sym (broken a.words.now a.bytes.now a.slots.now a.images.now a.recording.now a.k h.1 i.1 (Err c.in_err-state.field-0.0) f _ refl)))

pub returns : goal.returns
unfolding seek
returns c =
    let a = c.args in
    let h = is_sixteen _ _ _ (sym c.in_ok-sixteen.ensures) in
    let i = rw h.0 at (some_means _ _ (sym c.best.ensures ∙ c.in_ok-b.ensures.ok_part)) in
    let f = c.in_ok-state.ensures ∙ ap (fetch a.slots.now a.images.now) i.0 in
    let w = rw (h.0, i.0) at c.forward.ensures in
    sym (judged_lent _ _ not_sought _ h.1 ∙ set_accepted _ _ _ _ _ _ i.1 (sym c.has_frame.ensures ∙ c.if-not-has_frame.false) (sym c.in_ok-check.ensures)
    ∙ sym (goes a.words.now a.bytes.now a.slots.now a.images.now a.recording.now a.k h.1 i.1 (Ok c.in_ok-state.state) f _ _ refl w))
