-- The unpacker and the packer over lent bytes: the number that each answers, and each buffer after it.
use Rattle.std.specs.Prelude.{ℕ, List, not, cond, eqb, length}
use Rattle.bits.specs.Bits as Bits
use Rattle.desk_fields.specs.Fields.{FIELDS, bytes_of_fields, fields_of_bytes}

-- ---- unpacking, with room for so many bytes of fields: a room of another length is 2, before 3 and 6, and stays; a refused frame's fields are zeros
unfoldable pub unpack_number : List ℕ → ℕ → ℕ
unpack_number payload room = cond (not (eqb room FIELDS)) 2 (Bits.refusal payload)

unfoldable pub unpack_fields : List ℕ → List ℕ → List ℕ
unpack_fields payload old = cond (not (eqb (length old) FIELDS)) old (bytes_of_fields (Bits.fields_or_zero payload))

-- ---- packing the fields b: those of another length are 2, before 3 and 8; a refusal writes nothing
unfoldable pub pack_number : List ℕ → List ℕ → ℕ
pack_number b old = cond (not (eqb (length b) FIELDS)) 2 (Bits.pack (fields_of_bytes b) old)

unfoldable pub pack_payload : List ℕ → List ℕ → List ℕ
pack_payload b old = cond (not (eqb (length b) FIELDS)) old (Bits.packed (fields_of_bytes b) old)
