-- The records' length decides first; then the answer and the records are those of the call on records.
use Rattle.std.proofs.Common.{length, refl}
use Rattle.std.proofs.lemmas.Result.{err_from_is_err_and}
use Rattle.refusal.specs.Numbers.{number_not_0}
use Rattle.desk_shelf.proofs.Outcomes.{let_go_twelve, let_go_refused, let_go_taken}
use Rattle.desk_shelf.proofs.let_go.Goals as goal

pub returns-then-records-ne-RECORDS : goal.returns-then-records-ne-RECORDS
returns-then-records-ne-RECORDS c =
    let a = c.args in
    let t = let_go_twelve a.records.now (length a.images.now) a.slot c.if-records-ne-RECORDS.true in
    record { number = t.0; records = t.1 }

pub returns-in_err-let_go : goal.returns-in_err-let_go
returns-in_err-let_go c =
    let a = c.args in
    let p = err_from_is_err_and c.from_residual.result c.from_residual.ensures.1 in
    let t = let_go_refused a.records.now (length a.images.now) a.slot c.read_records-slots.result _ _ c.read_records-slots.ensures c.in_err-let_go.ensures (number_not_0 _) in
    rw (p.1, p.2) (record { number = t.0; records = t.1 })

pub returns : goal.returns
returns c =
    let a = c.args in
    let t = let_go_taken a.records.now (length a.images.now) a.slot c.read_records-slots.result _ _ c.read_records-slots.ensures c.in_ok-let_go.ensures refl _ c.write_records.ensures in
    record { number = t.0; records = t.1 }
