-- The loop that writes records, and the records that were read.
use Prim.Native.Nat.{ℕ, ◌+◌, ◌*◌, ◌<◌, ◌≤◌}
use mathlib.Core.Path.{◌≡◌, refl, sym, ap, ◌∙◌}
use mathlib.Core.List.{List, [], ◌∷◌, ◌++◌, append-nil}
use native.Mathlib.Numerals.{add-one}
use native.Mathlib.Omega.{arith}
use borrow.Author.Tests.{eq-eqb}
use lib.ListN.{length, get_or, take, drop, drop_of_length-le}
use lib.Seq.{sets, sets-eq, length-sets, length-take-le, take-suc, take_all, take_at, drop_at, drop-drop}
use Rattle.sequence.specs.Table.{table}
use Rattle.slots.specs.declared.Slot.{Slot}
use Rattle.slots.specs.Slots.{no_slot}
use Rattle.slot_users.specs.Users.{SLOTS}
use Rattle.desk_records.specs.Records.{RECORDS, record_bytes, bytes_of_records, record_at, records}
use Rattle.desk_records.specs.RoundTrips.{length_record, length_records, records_append}

-- ---- a loop that writes the records l over the bytes b₀: what it has done by turn k
module _ (l : List Slot) (b₀ : List ℕ) where
  abbrev pub Stored : List ℕ → ℕ → Type 0
  Stored b k = (k ≤ SLOTS) × (length b ≡ RECORDS) × (b ≡ bytes_of_records (take k l) ++ drop (5 * k) b₀)

module _ (l : List Slot) (b₀ : List ℕ) (long : length l ≡ SLOTS) (room : length b₀ ≡ RECORDS) where
  pub stored_none : Stored l b₀ b₀ 0
  unfolding bytes_of_records
  stored_none = (omega arith, room, refl)

  pub stored_more : (b new : List ℕ) (k : ℕ) (s : Slot) → Stored l b₀ b k → k < SLOTS → s ≡ get_or l k no_slot → new ≡ sets b (5 * k) (record_bytes s) → Stored l b₀ new (k + 1)
  unfolding bytes_of_records
  stored_more b new k s i h q e =
      let a = bytes_of_records (take k l) in
      let r = drop (5 * k) b₀ in
      let v = record_bytes s in
      let n : length v ≡ 5 = length_record s in
      let z : length b ≡ RECORDS = i.1 in
      let m : length a ≡ 5 * k = length_records (take k l) ∙ ap (λ (j : ℕ). 5 * j) (length-take-le k l (omega arith)) in
      let t : take (5 * k) b ≡ a = ap (take (5 * k)) i.2 ∙ take_at a r (5 * k) m in
      let d : drop (5 * k + 5) b ≡ drop (5 * k + 5) b₀ = ap (drop (5 * k + 5)) i.2 ∙ sym (drop-drop 5 (5 * k) (a ++ r)) ∙ ap (drop 5) (drop_at a r (5 * k) m) ∙ drop-drop 5 (5 * k) b₀ in
      let w : sets b (5 * k) v ≡ (take (5 * k) b ++ v) ++ drop (5 * k + 5) b = sets-eq v b (5 * k) (omega arith) ∙ ap (λ (j : ℕ). (take (5 * k) b ++ v) ++ drop (5 * k + j) b) n in
      let x : take (k + 1) l ≡ take k l ++ (s ∷ []) = rw (add-one k, take-suc l k no_slot (omega arith), q) in
      let g : bytes_of_records (take (k + 1) l) ≡ a ++ v = ap bytes_of_records x ∙ records_append (take k l) (s ∷ []) ∙ ap (λ (y : List ℕ). a ++ y) (append-nil v) in
      let f : 5 * k + 5 ≡ 5 * (k + 1) = omega arith in (
        omega arith,
        ap length e ∙ length-sets b (5 * k) v ∙ i.1,
        e ∙ w ∙ rw (t, d, f, g),
      )

  pub stored_end : (b : List ℕ) (k : ℕ) → Stored l b₀ b k → SLOTS ≤ k → b ≡ bytes_of_records l
  stored_end b k i h =
      let z = drop_of_length-le b₀ {i = 5 * k} (omega arith) in
      i.2 ∙ rw (take_all k l (omega arith), z) (append-nil (bytes_of_records l))

-- ---- the records that were read
pub all_read : (b : List ℕ) → length b ≡ RECORDS → table (record_at b) SLOTS ≡ records b
unfolding records
all_read b h = rw (eq-eqb (length b) RECORDS h)
