-- The lengths decide first; then the answer and the image are those of the call on states.
use Rattle.std.proofs.Common.{Ok, Err, ap, ◌∙◌}
use Rattle.image.specs.Image.{image}
use Rattle.seek.specs.Seek.{answer}
use Rattle.desk.proofs.Seeks.{seek_eleven, seek_twelve, seek_told}
use Rattle.desk.proofs.drolkhise_seek.Goals as goal

pub returns-then-image-ne-SIZE : goal.returns-then-image-ne-SIZE
returns-then-image-ne-SIZE c =
    let a = c.args in
    let t = seek_eleven a.tables.now a.records.now a.images.now a.recording.now a.image.now a.k c.if-image-ne-SIZE.true in
    record { number = t.0; image = t.1 }

pub returns-then-records-ne-RECORDS : goal.returns-then-records-ne-RECORDS
returns-then-records-ne-RECORDS c =
    let a = c.args in
    let t = seek_twelve a.tables.now a.records.now a.images.now a.recording.now a.image.now a.k c.if-image-ne-SIZE.false c.if-records-ne-RECORDS.true c.all_zero.result _ c.all_zero.ensures c.write.ensures in
    record { number = t.0; image = t.1 }

pub returns-in-Ok : goal.returns-in-Ok
returns-in-Ok c =
    let a = c.args in
    let t = seek_told a.tables.now a.records.now a.images.now a.recording.now a.image.now a.k c.if-image-ne-SIZE.false c.read_records.result (answer (Ok c.in-Ok.state)) _ c.read_records.ensures c.in-Ok.ensures c.write-in-Ok.ensures in
    record { number = t.0; image = t.1 }

pub returns-in-Err : goal.returns-in-Err
returns-in-Err c =
    let a = c.args in
    let t = seek_told a.tables.now a.records.now a.images.now a.recording.now a.image.now a.k c.if-image-ne-SIZE.false c.read_records.result (answer (Err c.in-Err.why)) _ c.read_records.ensures c.in-Err.ensures (c.write-in-Err.ensures ∙ ap image c.all_zero-in-Err.ensures) in
    record { number = c.number.ensures ∙ t.0; image = t.1 }
