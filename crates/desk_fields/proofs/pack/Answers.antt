-- The fields' length decides first; then it is the packer's call.
use mathlib.Core.Path.{◌∙◌}
use Rattle.desk_fields.proofs.Outcomes.{pack_two, pack_told}
use Rattle.desk_fields.proofs.pack.Goals as goal

pub returns-then-fields-ne-FIELDS : goal.returns-then-fields-ne-FIELDS
returns-then-fields-ne-FIELDS c =
    let a = c.args in let s = pack_two a.fields.now a.payload.now c.if-fields-ne-FIELDS.true in
    record { number = s.0; payload = s.1 }

pub returns : goal.returns
returns c =
    let a = c.args in
    let s = pack_told a.fields.now a.payload.now c.if-fields-ne-FIELDS.false c.numbers-read.result c.half_params-first.result c.half_params-second.result _ _ c.numbers-read.ensures c.half_params-first.ensures c.half_params-second.ensures (c.told.ensures ∙ c.pack.ensures.number, c.pack.ensures.frame) in
    record { number = s.0; payload = s.1 }
