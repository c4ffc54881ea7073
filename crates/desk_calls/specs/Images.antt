-- Decoding images is decoding states: of an image of 526 bytes each call answers the number of the call on its state, writes that call's samples, and leaves an
-- image of the state that it gives. Of tables of any length: another length than 15,834 makes a set that is refused with 1.
use Prim.Native.Nat.{ℕ, zero, suc, ◌+◌, ◌*◌, ◌<◌, ◌≤◌}
use Rattle.std.specs.Prelude.{◌≡◌, List, map, Bool, not, ◌&&◌, eqb, ℤ, pos, get_or, set, replicate}
use Rattle.std.proofs.Math.Path.{refl, sym}
use Rattle.std.proofs.Common.{◌∙◌, mul-suc, mul-le-mul_left, arith, length-drop, length-set, get_or-set_same, get_or-set_other}
use Rattle.std.proofs.Math.Bool.{true, false, cond}
use borrow.Author.Tests.{eq-eqb, ne_eqb, eqb-true, eqb-false}
use Rattle.std.specs.Int.Bits.{bit_and}
use Rattle.std.proofs.Math.ListN.{length}
use Rattle.std.proofs.lemmas.List.{length-map}
use Rattle.sequence.specs.First.{some}
use Rattle.sequence.specs.Table.{table, table_same}
use Rattle.tables.specs.Places.{WORDS, BYTES}
use Rattle.tables.specs.Tables.{broken, check}
use Rattle.bits.specs.Bits.{fields_of}
use Rattle.observation.specs.Frame as Frame
use Rattle.state.specs.declared.State.{State}
use Rattle.state.specs.State.{fallen, obeys, initial, started_by, started, reset, cold_start, missed_frame}
use Rattle.calls.specs.Celp as Celp
use Rattle.calls.specs.Cases.{refused_state}
use Rattle.calls.specs.Accepted.{accepted_means}
use Rattle.image.specs.Bytes.{number_at}
use Rattle.image.specs.Parts.{numbers_at, cut, length_all, length_numbers}
use Rattle.image.specs.Image.{SIZE, layout, signed, unsigned, of_numbers, image, state}
use Rattle.image.specs.Cases.{zero_image}
use Rattle.desk_calls.specs.Desk.{TABLES, ROOM, MARK, SURE, lowered, words, bytes, sample_bytes, zeros, barred, unmarked, begun, reset_number, reset_image, cold_number, cold_image, decode_number, decode_image, decode_samples, missed_number, missed_image}

-- ---- the numbers of the calls on states are below 8, so none is 11
pub below : (b : Bool) (n x : ℕ) → n < 8 → x < 8 → cond b n x < 8
below true n x p q = p
below false n x p q = q

pub check_small : (words : List ℤ) (bytes : List ℕ) → check words bytes < 8
unfolding check
check_small words bytes =
    below (eqb (length words) WORDS && eqb (length bytes) BYTES) (cond (some (broken words bytes) 7) 4 0) 1 (below (some (broken words bytes) 7) 4 0 (omega arith) (omega arith)) (omega arith)

pub refusal_small : (words : List ℤ) (bytes : List ℕ) (s : State) (payload : List ℕ) (room : ℕ) → Celp.refusal words bytes s payload room < 8
unfolding Celp.refusal
refusal_small words bytes s payload room =
    below (not (eqb (length words) WORDS && eqb (length bytes) BYTES)) 1 _ (omega arith)
    (below (not (eqb room 320)) 2 _ (omega arith)
    (below (not (eqb (length payload) 20)) 3 _ (omega arith)
    (below (some (broken words bytes) 7) 4 _ (omega arith)
    (below (not (obeys s)) 5 _ (omega arith)
    (below (not (eqb (bit_and (get_or payload 19 0) 0xc0) 0)) 6 _ (omega arith)
    (below (not (Frame.digits_fit words (fields_of payload))) 7 0 (omega arith) (omega arith)))))))

pub missed_small : (s : State) → (missed_frame s).number < 8
unfolding missed_frame
missed_small s = below (obeys s) 0 5 (omega arith) (omega arith)

-- ---- tables of another length
pub words_long : (tables : List ℕ) → length (words tables) ≡ 5963
unfolding words
words_long tables = length-map (numbers_at 2 5963 tables 0) (signed 2) ∙ length_numbers 2 5963 tables 0

-- their set is not as long as one is to be
pub short_set : (tables : List ℕ) → (length tables ≡ TABLES → ⊥) → eqb (length (words tables)) WORDS && eqb (length (bytes tables)) BYTES ≡ false
short_set tables h =
    let l = length-drop 11926 tables in
    rw (eq-eqb (length (words tables)) 5963 (words_long tables), ne_eqb (length (bytes tables)) 3908 (λ e. h (omega arith)))

pub short_check : (tables : List ℕ) → (length tables ≡ TABLES → ⊥) → check (words tables) (bytes tables) ≡ 1
unfolding check
short_check tables h = rw (short_set tables h)

-- ---- reset and cold start
module _ (tables b : List ℕ) (m : ℕ) where
  begun_zero : (n : ℕ) (s : State) → (suc n ≡ 11 → ⊥) → zeros SIZE ≡ begun (suc n) s b
  unfolding begun
  begun_zero n s h = rw (ne_eqb (suc n) 0 (λ e. omega arith), ne_eqb (suc n) 11 h)

  begun_begun : (s : State) → image s ≡ begun 0 s b
  unfolding begun
  begun_begun s = refl

  -- the image is the given state's, refused or not
  pub image_started : image (started (words tables) (bytes tables) m).state ≡ begun (started (words tables) (bytes tables) m).number (initial (words tables) (bytes tables) m) b
  unfolding started started_by
  image_started = by (check (words tables) (bytes tables)) (check_small (words tables) (bytes tables))
    where
      by : (n : ℕ) → n < 8 → image (started_by n (words tables) (bytes tables) m).state ≡ begun (started_by n (words tables) (bytes tables) m).number (initial (words tables) (bytes tables) m) b
      by zero h = begun_begun (initial (words tables) (bytes tables) m)
      by (suc n) h = zero_image ∙ begun_zero n (initial (words tables) (bytes tables) m) (λ e. omega arith)

  started_short : (length tables ≡ TABLES → ⊥) → (started (words tables) (bytes tables) m).number ≡ 1
  unfolding started started_by
  started_short h = rw (short_check tables h)

  barred_started : length b ≡ SIZE → barred tables b (started (words tables) (bytes tables) m).number ≡ (started (words tables) (bytes tables) m).number
  unfolding barred
  barred_started l = rw (eq-eqb (length b) 526 l) (by (eqb (length tables) 15834) (eqb-false (length tables) 15834))
    where
      by : (t : Bool) → (t ≡ false → length tables ≡ 15834 → ⊥) → cond (not t) 1 (started (words tables) (bytes tables) m).number ≡ (started (words tables) (bytes tables) m).number
      by true h = refl
      by false h = sym (started_short (h refl))

module _ (tables b : List ℕ) (l : length b ≡ SIZE) where
  pub reset_same : (reset_number tables b ≡ (reset (words tables) (bytes tables)).number) × (reset_image tables b ≡ image (reset (words tables) (bytes tables)).state)
  unfolding reset_number reset_image reset
  reset_same = rw (barred_started tables b 2 l) (refl, sym (image_started tables b 2))

  pub cold_same : (cold_number tables b ≡ (cold_start (words tables) (bytes tables)).number) × (cold_image tables b ≡ image (cold_start (words tables) (bytes tables)).state)
  unfolding cold_number cold_image cold_start
  cold_same = rw (barred_started tables b 0 l) (refl, sym (image_started tables b 0))

-- ---- the number of a frame; how many samples a room has: 640 bytes are 320, another length is none that a frame could go to
unfoldable pub samples_of : ℕ → ℕ
samples_of room = cond (eqb room ROOM) 320 0

module _ (tables b payload : List ℕ) (room : ℕ) (l : length b ≡ SIZE) where
  abbrev on : State → ℕ → ℕ
  on s r = Celp.refusal (words tables) (bytes tables) s payload r

  short_refused : (r : ℕ) → (length tables ≡ TABLES → ⊥) → on (state b) r ≡ 1
  unfolding Celp.refusal
  short_refused r h = rw (short_set tables h)

  long_set : length tables ≡ TABLES → eqb (length (words tables)) WORDS && eqb (length (bytes tables)) BYTES ≡ true
  long_set h =
      let d = length-drop 11926 tables in
      rw (eq-eqb (length (words tables)) 5963 (words_long tables), eq-eqb (length (bytes tables)) 3908 (omega arith))

  roomless : length tables ≡ TABLES → on (state b) 0 ≡ 2
  unfolding Celp.refusal
  roomless h = rw (long_set h)

  -- whatever number is barred so is the call's on the state
  number_of : (n : ℕ) → n ≡ barred tables b (cond (not (eqb room ROOM)) 2 (on (state b) 320)) → n ≡ on (state b) (samples_of room)
  unfolding barred samples_of
  number_of n e = e ∙ rw (eq-eqb (length b) 526 l) (by (eqb (length tables) 15834) (eqb room 640) (eqb-true (length tables) 15834) (eqb-false (length tables) 15834))
    where
      by : (t r : Bool) → (t ≡ true → length tables ≡ 15834) → (t ≡ false → length tables ≡ 15834 → ⊥) → cond (not t) 1 (cond (not r) 2 (on (state b) 320)) ≡ on (state b) (cond r 320 0)
      by false r y n = sym (short_refused (cond r 320 0) (n refl))
      by true false y n = sym (roomless (y refl))
      by true true y n = refl

  pub number_same : decode_number tables b payload room ≡ on (state b) (samples_of room)
  unfolding decode_number
  number_same = number_of (decode_number tables b payload room) refl

  -- the two ways that a frame goes
  pub image_taken : decode_number tables b payload room ≡ 0 → decode_image tables b payload room ≡ image (Celp.decode (words tables) (bytes tables) (state b) payload (samples_of room)).state
  unfolding decode_image decode_number
  image_taken z =
      let a = accepted_means (words tables) (bytes tables) (state b) payload (samples_of room) (sym (number_of (decode_number tables b payload room) refl) ∙ z) in
      rw (z, a.samples_long)

  pub image_refused : (decode_number tables b payload room ≡ 0 → ⊥) → decode_image tables b payload room ≡ lowered b
  unfolding decode_image unmarked decode_number
  image_refused z =
      let s = refusal_small (words tables) (bytes tables) (state b) payload (samples_of room) in
      let e = number_of (decode_number tables b payload room) refl in
      rw (ne_eqb (decode_number tables b payload room) 0 z, ne_eqb (decode_number tables b payload room) 11 (λ q. omega arith))

  pub left_fallen : (decode_number tables b payload room ≡ 0 → ⊥) → (Celp.decode (words tables) (bytes tables) (state b) payload (samples_of room)).state ≡ fallen (state b)
  unfolding decode_number
  left_fallen z = refused_state (words tables) (bytes tables) (state b) payload (samples_of room) (λ e. z (number_of (decode_number tables b payload room) refl ∙ e))

-- the room after it has the bytes of what the call on states leaves in a buffer whose bytes it had
module _ (tables b payload : List ℕ) (xs : List ℤ) (l : length b ≡ SIZE) (n : length xs ≡ 320) where
  room_long : length (sample_bytes xs) ≡ 640
  room_long =
      let m = length-map xs (unsigned 2) in
      length_all 2 (map (unsigned 2) xs) ∙ omega arith

  number_here : (k : ℕ) → k ≡ barred tables b (cond (not (eqb (length (sample_bytes xs)) ROOM)) 2 (Celp.refusal (words tables) (bytes tables) (state b) payload 320)) → k ≡ Celp.refusal (words tables) (bytes tables) (state b) payload 320
  unfolding samples_of
  number_here k e = number_of tables b payload (length (sample_bytes xs)) l k e ∙ rw (eq-eqb (length (sample_bytes xs)) 640 room_long)

  pub samples_same : decode_samples tables b payload (sample_bytes xs) ≡ sample_bytes (Celp.samples (words tables) (bytes tables) (state b) payload xs)
  unfolding decode_samples decode_number Celp.samples Celp.written
  samples_same = rw (number_here (decode_number tables b payload (length (sample_bytes xs))) refl, n) (by (Celp.refusal (words tables) (bytes tables) (state b) payload 320))
    where
      by : (k : ℕ) → cond (eqb k 0) (sample_bytes (Celp.written k (words tables) (bytes tables) (state b) payload (replicate 320 (pos 0)))) (sample_bytes xs) ≡ sample_bytes (Celp.written k (words tables) (bytes tables) (state b) payload xs)
      by zero = refl
      by (suc k) = rw (ne_eqb (suc k) 0 (λ e. omega arith))

-- ---- a missed frame
module _ (b : List ℕ) (l : length b ≡ SIZE) where
  pub missed_same : missed_number b ≡ (missed_frame (state b)).number
  unfolding missed_number
  missed_same = rw (eq-eqb (length b) 526 l)

  pub missed_image_lem : missed_image b ≡ lowered b
  unfolding missed_image unmarked
  missed_image_lem =
      let s = missed_small (state b) in
      let e = missed_same in
      rw (ne_eqb (missed_number b) 11 (λ q. omega arith))

-- ---- the last two bytes alone
number_before : (w : ℕ) (b : List ℕ) (at : ℕ) → at + w ≤ MARK → number_at w (lowered b) at ≡ number_at w b at
unfolding number_at
number_before zero b at h = refl
number_before (suc w) b at h = rw (get_or-set_other (set b MARK 0) SURE at 0 0 (λ e. omega arith), get_or-set_other b MARK at 0 0 (λ e. omega arith), number_before w b (at + 1) (omega arith))

reach : (w n k at : ℕ) → k < n → at + w * n ≤ MARK → at + w * k + w ≤ MARK
reach w n k at p h =
    let e = mul-le-mul_left w p in
    let f = mul-suc w k in
    omega arith

numbers_before : (w n : ℕ) (b : List ℕ) (at : ℕ) → at + w * n ≤ MARK → numbers_at w n (lowered b) at ≡ numbers_at w n b at
unfolding numbers_at
numbers_before w n b at h = table_same (λ k. number_at w (lowered b) (at + w * k)) (λ k. number_at w b (at + w * k)) n (λ k p. number_before w b (at + w * k) (reach w n k at p h))

mark_there : (b : List ℕ) → length b ≡ SIZE → get_or (numbers_at 1 1 (lowered b) MARK) 0 0 ≡ 0
unfolding numbers_at table number_at
mark_there b l = rw (get_or-set_other (set b MARK 0) SURE MARK 0 0 (λ e. omega arith), get_or-set_same b MARK 0 0 (omega arith))

sure_there : (b : List ℕ) → length b ≡ SIZE → get_or (numbers_at 1 1 (lowered b) SURE) 0 0 ≡ 0
unfolding numbers_at table number_at
sure_there b l = rw (get_or-set_same (set b MARK 0) SURE 0 0 (omega (arith, length-set b MARK 0)))

-- its state is the same with 0 and 0
pub state_lowered : (b : List ℕ) → length b ≡ SIZE → state (lowered b) ≡ fallen (state b)
unfolding state of_numbers cut layout
state_lowered b l =
    rw (
      numbers_before 2 10 b 0 (omega arith),
      numbers_before 2 154 b 20 (omega arith),
      numbers_before 2 10 b 328 (omega arith),
      numbers_before 2 1 b 348 (omega arith),
      numbers_before 2 1 b 350 (omega arith),
      numbers_before 2 6 b 352 (omega arith),
      numbers_before 4 6 b 364 (omega arith),
      numbers_before 4 30 b 388 (omega arith),
      numbers_before 4 4 b 508 (omega arith),
      mark_there b l,
      sure_there b l,
    )
