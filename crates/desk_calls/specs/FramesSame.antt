-- 1 to 64 frames of an image are those of its state: the number, the numbers and samples of the frames and the next image are the call's on states. So is what
-- stood in the room: bytes that are read as samples and written back are the same bytes.
use Prim.Native.Nat.{ℕ, zero, suc, ◌+◌, ◌*◌, ◌/◌, ◌<◌, ◌≤◌}
use Rattle.std.specs.Prelude.{◌≡◌, List, [], ◌∷◌, Bool, not, ◌&&◌, eqb, leb, ℤ}
use Rattle.std.proofs.Math.Path.{refl, sym}
use Rattle.std.proofs.Common.{ap, ◌∙◌, append-nil, arith}
use Rattle.std.proofs.Math.Bool.{true, false, cond}
use borrow.Author.Tests.{eq-eqb, ne_eqb, eqb-true, eqb-false, leb-true}
use Rattle.std.proofs.Math.ListN.{length, length-drop}
use Rattle.std.proofs.lemmas.List.{length-map}
use Rattle.sequence.specs.First.{some}
use Rattle.tables.specs.Places.{WORDS, BYTES}
use Rattle.tables.specs.Tables.{broken}
use Rattle.state.specs.declared.State.{State}
use Rattle.state.specs.State.{fallen, obeys}
use Rattle.calls.specs.Checks.{checked, checked_passed}
use Rattle.calls.specs.Frames as Frames
use Rattle.image.specs.Bytes.{Bytes}
use Rattle.image.specs.Parts.{part, numbers_at, bytes_of_all, join, cut, size, join_cut, length_numbers, numbers_below}
use Rattle.image.specs.Image.{SIZE, signed, image, state}
use Rattle.image.specs.Signs.{numbers_back}
use Rattle.desk_calls.specs.Desk.{TABLES, lowered, words, bytes, sample_bytes, zeros, barred, unmarked, samples_in, standing, frames_number, frames_image, frames_samples, frames_numbers}
use Rattle.desk_calls.specs.Images.{below, words_long, short_set}

-- ---- the room
-- what it takes has place in it; and a room that is one of some frames has nothing else
pub samples_in_most : (room : ℕ) → 2 * samples_in room ≤ room
unfolding samples_in
samples_in_most room = by (eqb room (640 * (room / 640)) && leb (room / 640) 64)
  where
    by : (t : Bool) → 2 * cond t (320 * (room / 640)) 0 ≤ room
    by true = omega arith
    by false = omega arith

pub samples_in_top : (room : ℕ) → samples_in room ≤ 20480
unfolding samples_in
samples_in_top room = by (eqb room (640 * (room / 640))) (leb (room / 640) 64) (leb-true (room / 640) 64)
  where
    by : (s t : Bool) → (t ≡ true → room / 640 ≤ 64) → cond (s && t) (320 * (room / 640)) 0 ≤ 20480
    by true true h = let q = h refl in omega arith
    by true false h = omega arith
    by false t h = omega arith

pub samples_in_whole : (room : ℕ) → (samples_in room ≡ 0 → ⊥) → room ≡ 2 * samples_in room
unfolding samples_in
samples_in_whole room = by (eqb room (640 * (room / 640))) (leb (room / 640) 64) (eqb-true room (640 * (room / 640)))
  where
    by : (s t : Bool) → (s ≡ true → room ≡ 640 * (room / 640)) → (cond (s && t) (320 * (room / 640)) 0 ≡ 0 → ⊥) → room ≡ 2 * cond (s && t) (320 * (room / 640)) 0
    by true true e h = let q = e refl in omega arith
    by true false e h = absurd (h refl)
    by false t e h = absurd (h refl)

pub standing_long : (old : List ℕ) → length (standing old) ≡ samples_in (length old)
unfolding standing
standing_long old = length-map (numbers_at 2 (samples_in (length old)) old 0) (signed 2) ∙ length_numbers 2 (samples_in (length old)) old 0

-- read and written back it is as it was
pub standing_back : (old : List ℕ) → Bytes old → length old ≡ 2 * samples_in (length old) → sample_bytes (standing old) ≡ old
unfolding standing join cut size
standing_back old h l =
    let n = samples_in (length old) in
    let e : length old ≡ 0 + (2 * n + 0) = omega arith in
    ap (bytes_of_all 2) (numbers_back 2 (numbers_at 2 n old 0) (numbers_below 2 n old h 0)) ∙ sym (append-nil (bytes_of_all 2 (numbers_at 2 n old 0))) ∙ join_cut (part n 2 ∷ []) old h 0 e

-- ---- the number
pub sizes_small : (payloads room answers : ℕ) → Frames.frames_sizes payloads room answers < 8
unfolding Frames.frames_sizes
sizes_small payloads room answers =
    below (not (eqb payloads (20 * (payloads / 20)) && (leb 1 (payloads / 20) && leb (payloads / 20) 64))) 3 _ (omega arith)
    (below (not (eqb room (320 * (payloads / 20)) && eqb answers (payloads / 20))) 2 0 (omega arith) (omega arith))

pub frames_small : (words : List ℤ) (bytes : List ℕ) (s : State) (payloads : List ℕ) (room answers : ℕ) → Frames.frames_refusal words bytes s payloads room answers < 8
unfolding Frames.frames_refusal checked
frames_small words bytes s payloads room answers =
    let n = Frames.frames_sizes (length payloads) room answers in
    below (not (eqb (length words) WORDS && eqb (length bytes) BYTES)) 1 _ (omega arith)
    (below (not (eqb n 0)) n _ (sizes_small (length payloads) room answers)
    (below (some (broken words bytes) 7) 4 _ (omega arith)
    (below (not (obeys s)) 5 0 (omega arith) (omega arith))))

no_frames : (payloads room answers : ℕ) → payloads ≡ 0 → Frames.frames_sizes payloads room answers ≡ 0 → ⊥
unfolding Frames.frames_sizes
no_frames payloads room answers p z = omega (arith, rw p at z)

-- frames that are taken have a room that is whole
pub frames_room : (words : List ℤ) (bytes : List ℕ) (s : State) (payloads : List ℕ) (room answers : ℕ) → Frames.frames_refusal words bytes s payloads (samples_in room) answers ≡ 0
    → room ≡ 2 * samples_in room
unfolding Frames.frames_refusal
frames_room words bytes s payloads room answers e =
    let z = (checked_passed words bytes s (Frames.frames_sizes (length payloads) (samples_in room) answers) e).sizes_right in
    let r = Frames.frames_right (length payloads) (samples_in room) answers z in
    samples_in_whole room (λ k. no_frames (length payloads) (samples_in room) answers (omega (arith, r.0, r.1)) z)

module _ (tables b payloads : List ℕ) (room answers : ℕ) (l : length b ≡ SIZE) where
  abbrev on : ℕ
  on = Frames.frames_refusal (words tables) (bytes tables) (state b) payloads (samples_in room) answers

  short : (length tables ≡ TABLES → ⊥) → on ≡ 1
  unfolding Frames.frames_refusal checked
  short h = rw (short_set tables h)

  pub frames_number_same : frames_number tables b payloads room answers ≡ on
  unfolding frames_number barred
  frames_number_same = rw (eq-eqb (length b) 526 l) (by (eqb (length tables) 15834) (eqb-false (length tables) 15834))
    where
      by : (t : Bool) → (t ≡ false → length tables ≡ 15834 → ⊥) → cond (not t) 1 on ≡ on
      by true n = refl
      by false n = sym (short (n refl))

  -- behind 11 and 1 come the sizes, 3 before 2, and then 4 and 5
  pub frames_sizes_lem : length tables ≡ TABLES → (Frames.frames_sizes (length payloads) (samples_in room) answers ≡ 0 → ⊥) → frames_number tables b payloads room answers ≡ Frames.frames_sizes (length payloads) (samples_in room) answers
  unfolding Frames.frames_refusal checked
  frames_sizes_lem t h = frames_number_same ∙ sized
    where
      sized : on ≡ Frames.frames_sizes (length payloads) (samples_in room) answers
      sized =
          let d = length-drop 11926 tables in
          rw (eq-eqb (length (words tables)) 5963 (words_long tables), eq-eqb (length (bytes tables)) 3908 (omega arith), ne_eqb (Frames.frames_sizes (length payloads) (samples_in room) answers) 0 h)

  -- ---- the image
  pub frames_taken : frames_number tables b payloads room answers ≡ 0 → frames_image tables b payloads room answers ≡ image (Frames.decode_frames (words tables) (bytes tables) (state b) payloads (samples_in room) answers).state
  unfolding frames_image
  frames_taken z = rw z

  pub frames_refused : (frames_number tables b payloads room answers ≡ 0 → ⊥) → frames_image tables b payloads room answers ≡ lowered b
  unfolding frames_image unmarked
  frames_refused z =
      let s = frames_small (words tables) (bytes tables) (state b) payloads (samples_in room) answers in
      let e = frames_number_same in
      rw (ne_eqb (frames_number tables b payloads room answers) 0 z, ne_eqb (frames_number tables b payloads room answers) 11 (λ q. omega arith))

  pub frames_fallen : (frames_number tables b payloads room answers ≡ 0 → ⊥) → (Frames.decode_frames (words tables) (bytes tables) (state b) payloads (samples_in room) answers).state ≡ fallen (state b)
  unfolding Frames.decode_frames Frames.returned
  frames_fallen z = by on (λ e. z (frames_number_same ∙ e))
    where
      by : (n : ℕ) → (n ≡ 0 → ⊥) → (Frames.returned (words tables) (bytes tables) n (state b) payloads).state ≡ fallen (state b)
      by zero h = absurd (h refl)
      by (suc n) h = refl

-- ---- the two rooms
pub frames_numbers_same : (tables b payloads : List ℕ) (room : ℕ) (old : List ℕ) → length b ≡ SIZE
    → frames_numbers tables b payloads room old ≡ Frames.frames_numbers (words tables) (bytes tables) (state b) payloads (samples_in room) old
unfolding frames_numbers Frames.frames_numbers Frames.numbers_by
frames_numbers_same tables b payloads room old l = rw (frames_number_same tables b payloads room (length old) l) (by (Frames.frames_refusal (words tables) (bytes tables) (state b) payloads (samples_in room) (length old)))
  where
    by : (n : ℕ) → cond (eqb n 0) (Frames.numbers_by (words tables) (bytes tables) n (state b) payloads old) old ≡ Frames.numbers_by (words tables) (bytes tables) n (state b) payloads old
    by zero = refl
    by (suc n) = rw (ne_eqb (suc n) 0 (λ e. omega arith))

pub frames_samples_same : (tables b payloads old : List ℕ) (answers : ℕ) → length b ≡ SIZE → Bytes old → length old ≡ 2 * samples_in (length old)
    → frames_samples tables b payloads old answers ≡ sample_bytes (Frames.frames_samples (words tables) (bytes tables) (state b) payloads (standing old) answers)
unfolding frames_samples Frames.frames_samples Frames.samples_by
frames_samples_same tables b payloads old answers l h m =
    rw (frames_number_same tables b payloads (length old) answers l, standing_long old) (by (Frames.frames_refusal (words tables) (bytes tables) (state b) payloads (samples_in (length old)) answers))
  where
    by : (n : ℕ) → cond (eqb n 0) (sample_bytes (Frames.samples_by (words tables) (bytes tables) n (state b) payloads (standing old))) old ≡ sample_bytes (Frames.samples_by (words tables) (bytes tables) n (state b) payloads (standing old))
    by zero = refl
    by (suc n) = rw (ne_eqb (suc n) 0 (λ e. omega arith)) (sym (standing_back old h m))

-- a payload of 19 bytes with a room of 639 is 3; a right one with room for a byte too many, or for two numbers, is 2
sizes_first : (tables : List ℕ) → length tables ≡ 15834 → (frames_number tables (zeros 526) (zeros 19) 639 1 ≡ 3) × (frames_number tables (zeros 526) (zeros 20) 641 1 ≡ 2) × (frames_number tables (zeros 526) (zeros 20) 640 2 ≡ 2)
unfolding Frames.frames_sizes samples_in
sizes_first tables t = (frames_sizes_lem tables (zeros 526) (zeros 19) 639 1 refl t (λ e. omega arith), frames_sizes_lem tables (zeros 526) (zeros 20) 641 1 refl t (λ e. omega arith), frames_sizes_lem tables (zeros 526) (zeros 20) 640 2 refl t (λ e. omega arith))
