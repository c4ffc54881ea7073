-- Sixteen records as bytes, and bytes as sixteen records: each undoes the other.
use Rattle.std.specs.Prelude.{ℕ, zero, suc, ◌+◌, ◌*◌, ◌<◌, ◌≤◌, ◌≡◌, refl, List, [], ◌∷◌, ◌++◌, length, get_or, take, drop}
use Rattle.std.proofs.Common.{sym, ap, ◌∙◌, append_assoc, append-nil, add-one, arith, eq-eqb, length-append, drop-cons, get_or-append-add, take-add, take_all}
use Rattle.sequence.specs.Table.{table, table_of}
use Rattle.image.specs.Bytes.{Bytes, bytes_of, number_at, length_bytes, number_behind, number_back, bytes_back}
use Rattle.slots.specs.declared.Slot.{Slot}
use Rattle.slots.specs.Slots.{no_slot}
use Rattle.slot_users.specs.Users.{SLOTS}
use Rattle.desk_records.specs.Records.{RECORDS, record_bytes, bytes_of_records, record_at, records}

-- what a program can hold in a Slot
pub record HeldSlot (s : Slot) : Type 0 where
  pub users_held : s.users < 256
  pub frame_held : s.frame < 4294967296

abbrev pub HeldSlots : List Slot → Type 0
HeldSlots l = (k : ℕ) → HeldSlot (get_or l k no_slot)

-- ---- how long they are
pub length_record : (s : Slot) → length (record_bytes s) ≡ 5
unfolding record_bytes
length_record s = ap suc (length_bytes 4 s.frame)

pub length_records : (l : List Slot) → length (bytes_of_records l) ≡ 5 * length l
unfolding bytes_of_records
length_records [] = refl
length_records (s ∷ l) = let a = length_record s in let b = length_records l in length-append (record_bytes s) (bytes_of_records l) ∙ omega arith

pub records_append : (a b : List Slot) → bytes_of_records (a ++ b) ≡ bytes_of_records a ++ bytes_of_records b
unfolding bytes_of_records
records_append [] b = refl
records_append (s ∷ a) b = rw (records_append a b, append_assoc)

-- ---- records that are written and read
first_back : (s : Slot) (b : List ℕ) → HeldSlot s → record_at (record_bytes s ++ b) 0 ≡ s
unfolding record_at record_bytes
first_back s b h =
    let f = number_behind 4 (s.users ∷ []) (bytes_of 4 s.frame ++ b) 0 ∙ number_back 4 s.frame b h.frame_held in
    ap (λ (n : ℕ). record { users = s.users; frame = n }) f

behind_back : (s : Slot) (b : List ℕ) (k : ℕ) → record_at (record_bytes s ++ b) (suc k) ≡ record_at b k
unfolding record_at
behind_back s b k =
    let p = record_bytes s in
    let n = length_record s in
    let e : 5 * suc k ≡ length p + 5 * k = omega arith in
    let g : 5 * suc k + 1 ≡ length p + (5 * k + 1) = omega arith in
    let u = ap (λ (i : ℕ). get_or (p ++ b) i 0) e ∙ get_or-append-add p b (5 * k) 0 in
    let f = ap (number_at 4 (p ++ b)) g ∙ number_behind 4 p b (5 * k + 1) in
    (λ i. record { users = u i; frame = f i })

at_back : (l : List Slot) → HeldSlots l → (k : ℕ) → k < length l → record_at (bytes_of_records l) k ≡ get_or l k no_slot
unfolding bytes_of_records
at_back [] h k m = absurd (omega arith)
at_back (s ∷ l) h zero m = first_back s (bytes_of_records l) (h 0)
at_back (s ∷ l) h (suc k) m = behind_back s (bytes_of_records l) k ∙ at_back l (λ j. h (suc j)) k (omega arith)

pub records_back : (l : List Slot) → length l ≡ SLOTS → HeldSlots l → records (bytes_of_records l) ≡ l
unfolding records
records_back l e h =
    let n = length_records l in
    rw (eq-eqb (length (bytes_of_records l)) RECORDS (omega arith)) (table_of (record_at (bytes_of_records l)) no_slot l SLOTS e (λ k m. at_back l h k (omega arith)))

-- ---- bytes that are read and written
one_back : (b : List ℕ) → Bytes b → (n : ℕ) → 5 * n + 5 ≤ length b → record_bytes (record_at b n) ≡ take 5 (drop (5 * n) b)
unfolding record_at record_bytes
one_back b h n l = rw (drop-cons b (5 * n) 0 (omega arith), bytes_back 4 b h (5 * n + 1) (omega arith), add-one (5 * n))

part_back : (b : List ℕ) → Bytes b → (n : ℕ) → 5 * n ≤ length b → bytes_of_records (table (record_at b) n) ≡ take (5 * n) b
unfolding table bytes_of_records
part_back b h zero l = refl
part_back b h (suc n) l =
    let e : 5 * suc n ≡ 5 * n + 5 = omega arith in
    records_append (table (record_at b) n) (record_at b n ∷ [])
    ∙ rw (append-nil (record_bytes (record_at b n)), part_back b h n (omega arith), one_back b h n (omega arith), e) (sym (take-add (5 * n) 5 b))

pub bytes_of_records_lem : (b : List ℕ) → Bytes b → length b ≡ RECORDS → bytes_of_records (records b) ≡ b
unfolding records
bytes_of_records_lem b h e = rw (eq-eqb (length b) RECORDS e) (part_back b h SLOTS (omega arith) ∙ take_all RECORDS b (omega arith))
