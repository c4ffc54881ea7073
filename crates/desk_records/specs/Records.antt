-- Slot records as bytes, as a player in C lends them: 5 a record, its users, then its frame number of 32 bits, the lowest byte first.
use Rattle.std.specs.Prelude.{ℕ, ◌+◌, ◌*◌, ◌≡◌, refl, cond, List, [], ◌∷◌, ◌++◌, eqb, length, get_or}
use Rattle.std.proofs.Common.{ne_eqb}
use Rattle.sequence.specs.Table.{table}
use Rattle.image.specs.Bytes.{bytes_of, number_at}
use Rattle.slots.specs.declared.Slot.{Slot}
use Rattle.slot_users.specs.Users.{SLOTS}

-- how many bytes a record takes, and sixteen
abbrev pub RECORD : ℕ
RECORD = 5

abbrev pub RECORDS : ℕ
RECORDS = SLOTS * RECORD

-- the bytes of a record, and of records one behind the other
unfoldable pub record_bytes : Slot → List ℕ
record_bytes s = s.users ∷ bytes_of 4 s.frame

unfoldable pub bytes_of_records : List Slot → List ℕ
bytes_of_records [] = []
bytes_of_records (s ∷ l) = record_bytes s ++ bytes_of_records l

-- record k of lent bytes
unfoldable pub record_at : List ℕ → ℕ → Slot
record_at b k = record { users = get_or b (RECORD * k) 0; frame = number_at 4 b (RECORD * k + 1) }

-- the records that lent bytes stand for: sixteen; none where there are not bytes for sixteen
unfoldable pub records : List ℕ → List Slot
records b = cond (eqb (length b) RECORDS) (table (record_at b) SLOTS) []

-- two users of frame 1,000, which is 3 · 256 + 232
worked : (record_bytes (record { users = 2; frame = 1000 }) ≡ 2 ∷ 232 ∷ 3 ∷ 0 ∷ 0 ∷ []) × (record_at (9 ∷ 9 ∷ 9 ∷ 9 ∷ 9 ∷ 2 ∷ 232 ∷ 3 ∷ 0 ∷ 0 ∷ []) 1 ≡ record { users = 2; frame = 1000 })
unfolding record_bytes record_at bytes_of number_at
worked = (refl, refl)

-- where there are not bytes for sixteen records they stand for none
pub no_records : (b : List ℕ) → (length b ≡ RECORDS → ⊥) → records b ≡ []
unfolding records
no_records b h = rw (ne_eqb (length b) RECORDS h)
