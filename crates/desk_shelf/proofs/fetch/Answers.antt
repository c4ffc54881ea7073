-- The lengths decide first; then the answer and the image are those of the call by value.
use Rattle.std.proofs.Common.{Ok, Err, ap, ◌∙◌}
use Rattle.image.specs.Image as Image
use Rattle.shelf.specs.Answers.{fetched}
use Rattle.desk_shelf.proofs.Outcomes.{fetch_eleven, fetch_twelve, fetch_told}
use Rattle.desk_shelf.proofs.fetch.Goals as goal

pub returns-then-image-ne-SIZE : goal.returns-then-image-ne-SIZE
returns-then-image-ne-SIZE c =
    let a = c.args in
    let t = fetch_eleven a.records.now a.images.now a.image.now a.slot c.if-image-ne-SIZE.true in
    record { number = t.0; image = t.1 }

pub returns-then-records-ne-RECORDS : goal.returns-then-records-ne-RECORDS
returns-then-records-ne-RECORDS c =
    let a = c.args in
    let t = fetch_twelve a.records.now a.images.now a.image.now a.slot c.if-image-ne-SIZE.false c.if-records-ne-RECORDS.true c.all_zero.result _ c.all_zero.ensures c.write.ensures in
    record { number = t.0; image = t.1 }

pub returns-in-Ok : goal.returns-in-Ok
returns-in-Ok c =
    let a = c.args in
    let t = fetch_told a.records.now a.images.now a.image.now a.slot c.if-image-ne-SIZE.false c.read_records.result (fetched (Ok c.in-Ok.state)) _ c.read_records.ensures c.in-Ok.ensures c.write-in-Ok.ensures in
    record { number = t.0; image = t.1 }

pub returns-in-Err : goal.returns-in-Err
returns-in-Err c =
    let a = c.args in
    let t = fetch_told a.records.now a.images.now a.image.now a.slot c.if-image-ne-SIZE.false c.read_records.result (fetched (Err c.in-Err.why)) _ c.read_records.ensures c.in-Err.ensures (c.write-in-Err.ensures ∙ ap Image.image c.all_zero-in-Err.ensures) in
    record { number = t.0; image = t.1 }
