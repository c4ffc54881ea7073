-- The lengths decide first; then the answer, the records and the images are those of the call by value.
use mathlib.Core.Path.{refl, ap}
use native.Mathlib.Omega.{arith}
use lib.ListN.{length}
use Rattle.std.proofs.Common.{Ok, Err}
use Rattle.std.proofs.lemmas.Result.{err_from_is_err_and}
use Rattle.refusal.specs.Numbers.{number_not_0}
use Rattle.shelf.specs.Shelf.{Saved}
use Rattle.shelf.specs.Answers.{saved}
use Rattle.desk_shelf.proofs.Outcomes.{save_eleven, save_room, save_twelve, save_refused, save_taken, slot_small}
use Rattle.desk_shelf.proofs.save.Goals as goal

pub returns-then-image-ne-SIZE : goal.returns-then-image-ne-SIZE
returns-then-image-ne-SIZE c =
    let a = c.args in
    let t = save_eleven a.records.now a.images.now a.image.now a.slot.now a.frame c.if-image-ne-SIZE.true in
    record { number = t.0; records = t.1.0; images = t.1.1.0; slot = t.1.1.1 }

pub returns-then-slot-ne1 : goal.returns-then-slot-ne1
returns-then-slot-ne1 c =
    let a = c.args in
    let t = save_room a.records.now a.images.now a.image.now a.slot.now a.frame c.if-image-ne-SIZE.false c.if-slot-ne1.true in
    record { number = t.0; records = t.1.0; images = t.1.1.0; slot = t.1.1.1 }

pub returns-then-records-ne-RECORDS : goal.returns-then-records-ne-RECORDS
returns-then-records-ne-RECORDS c =
    let a = c.args in
    let t = save_twelve a.records.now a.images.now a.image.now a.slot.now a.frame c.if-image-ne-SIZE.false c.if-slot-ne1.false c.if-records-ne-RECORDS.true in
    record { number = t.0; records = t.1.0; images = t.1.1.0; slot = t.1.1.1 }

pub returns-in_err-taken : goal.returns-in_err-taken
returns-in_err-taken c =
    let a = c.args in
    let p = err_from_is_err_and c.from_residual.result c.from_residual.ensures.1 in
    let r = c.in_err-taken.field-0.0 in
    let t = save_refused a.records.now a.images.now a.image.now a.slot.now a.frame c.if-image-ne-SIZE.false c.if-slot-ne1.false c.read_records-slots.result _ c.read-state.result (saved (Err r)) _ c.read_records-slots.ensures c.read-state.ensures c.in_err-taken.ensures (number_not_0 r) in
    rw (p.1, p.2) (record { number = t.0; records = t.1.0; images = t.1.1.0; slot = t.1.1.1 })

pub overflow_cast-slot : goal.overflow_cast-slot
overflow_cast-slot c =
    let a = c.args in
    let s = ap (λ (x : Saved). x.slot) c.in_ok-taken.ensures.answer in
    let h = slot_small c.read_records-slots.result (length a.images.now) c.read-state.result a.frame in
    omega arith

pub returns : goal.returns
returns c =
    let a = c.args in
    let t = save_taken a.records.now a.images.now a.image.now a.slot.now a.frame c.if-image-ne-SIZE.false c.if-slot-ne1.false c.read_records-slots.result _ c.read-state.result (saved (Ok c.in_ok-taken.taken)) _ c.read_records-slots.ensures c.read-state.ensures c.in_ok-taken.ensures refl _ c.write_records.ensures _ refl in
    record { number = t.0; records = t.1.0; images = t.1.1.0; slot = t.1.1.1 }
