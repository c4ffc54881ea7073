-- The lengths decide first; then the answer is that of the call on states.
use Rattle.std.proofs.Common.{◌*◌, ℕ, refl, sym, ap, ◌∙◌}
use Rattle.desk_calls.specs.Desk.{sample_bytes}
use Rattle.desk.proofs.Outcomes.{words_are, answer_is, samples_are, filled, lowered_told, decode_eleven, decode_one, decode_two, decode_refused, decode_taken}
use Rattle.desk.proofs.drolkhise_decode.Goals as goal

pub returns-then-image-ne-SIZE : goal.returns-then-image-ne-SIZE
returns-then-image-ne-SIZE c =
    let a = c.args in
    let t = decode_eleven a.tables.now a.image.now a.payload.now a.samples.now c.if-image-ne-SIZE.true in
    record { number = t.0; image = t.1.0; samples = t.1.1 }

pub returns-then-tables-ne-TABLES : goal.returns-then-tables-ne-TABLES
returns-then-tables-ne-TABLES c =
    let a = c.args in
    let t = lowered_told a.tables.now a.image.now a.payload.now a.samples.now _ _ _ c.lower.ensures (decode_one a.tables.now a.image.now a.payload.now a.samples.now c.if-image-ne-SIZE.false c.if-tables-ne-TABLES.true) in
    record { number = t.0; image = t.1.0; samples = t.1.1 }

pub returns-then-samples-ne-ROOM : goal.returns-then-samples-ne-ROOM
returns-then-samples-ne-ROOM c =
    let a = c.args in
    let t = lowered_told a.tables.now a.image.now a.payload.now a.samples.now _ _ _ c.lower-then-samples-ne-ROOM.ensures (decode_two a.tables.now a.image.now a.payload.now a.samples.now c.if-image-ne-SIZE.false c.if-tables-ne-TABLES.false c.if-samples-ne-ROOM.true) in
    record { number = t.0; image = t.1.0; samples = t.1.1 }

pub returns-then-a-ne0 : goal.returns-then-a-ne0
returns-then-a-ne0 c =
    let a = c.args in
    let t = lowered_told a.tables.now a.image.now a.payload.now a.samples.now _ _ _ c.lower-then-a-ne0.ensures
    (decode_refused a.tables.now a.image.now a.payload.now a.samples.now c.if-image-ne-SIZE.false c.if-tables-ne-TABLES.false c.if-samples-ne-ROOM.false c.decode-a.result
    (answer_is a.tables.now a.image.now a.payload.now _ _ _ (words_are a.tables.now _ _ refl c.read_words.ensures) refl c.read-state.ensures _ _ refl c.decode-a.ensures.answer) c.if-a-ne0.true) in
    record { number = t.0; image = t.1.0; samples = t.1.1 }

pub returns : goal.returns
returns c =
    let a = c.args in
    let t = decode_taken a.tables.now a.image.now a.payload.now a.samples.now c.if-image-ne-SIZE.false c.if-tables-ne-TABLES.false c.if-samples-ne-ROOM.false c.decode-a.result
    (answer_is a.tables.now a.image.now a.payload.now _ _ _ (words_are a.tables.now _ _ refl c.read_words.ensures) refl c.read-state.ensures _ _ refl c.decode-a.ensures.answer) c.if-a-ne0.false _ _ c.write.ensures
    (c.put_words.ensures ∙ filled a.samples.now c.decode-a.new.samples (c.if-samples-ne-ROOM.false ∙ sym (ap (λ (n : ℕ). 2 * n) c.decode-a.auto.samples)) ∙ ap sample_bytes (samples_are a.tables.now a.image.now a.payload.now _ _ _ (words_are a.tables.now _ _ refl c.read_words.ensures) refl c.read-state.ensures _ _ refl c.decode-a.ensures.samples)) in
    record { number = t.0; image = t.1.0; samples = t.1.1 }
