-- The room's length decides first; then the answer is the unpacker's, and the room has its fields.
use mathlib.Core.Path.{sym, ap, ◌∙◌}
use Rattle.bits.specs.Bits.{number}
use Rattle.desk_fields.proofs.Outcomes.{unpack_two, unpack_told}
use Rattle.desk_fields.proofs.unpack.Goals as goal

pub returns-then-fields-ne-FIELDS : goal.returns-then-fields-ne-FIELDS
returns-then-fields-ne-FIELDS c =
    let a = c.args in let s = unpack_two a.payload.now a.fields.now c.if-fields-ne-FIELDS.true in
    record { number = s.0; fields = s.1 }

pub returns-in-Ok : goal.returns-in-Ok
returns-in-Ok c =
    let a = c.args in
    let s = unpack_told a.payload.now a.fields.now c.if-fields-ne-FIELDS.false c.unpack-answer.result c.fields.result c.list-read.result 0 _ c.unpack-answer.ensures c.fields.ensures c.list-read.ensures c.write.ensures (ap number (sym c.in-Ok.is)) in
    record { number = s.0; fields = s.1 }

pub returns-in-Err : goal.returns-in-Err
returns-in-Err c =
    let a = c.args in
    let s = unpack_told a.payload.now a.fields.now c.if-fields-ne-FIELDS.false c.unpack-answer.result c.fields.result c.list-read.result c.number.result _ c.unpack-answer.ensures c.fields.ensures c.list-read.ensures c.write.ensures (c.number.ensures ∙ ap number (sym c.in-Err.is)) in
    record { number = s.0; fields = s.1 }
