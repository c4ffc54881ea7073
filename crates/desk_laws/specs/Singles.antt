-- 1 to 64 frames in one call are their single calls on images, one after the other: the numbers, the samples and the image after the last.
use Rattle.std.specs.Prelude.{ℕ, zero, suc, ◌*◌, ◌/◌, ◌≡◌, ℤ, take, drop}
use Rattle.std.proofs.Math.Path.{refl, sym, ap, ap₂}
use Rattle.std.proofs.Common.{◌∙◌, arith}
use mathlib.Core.List.{List, [], ◌∷◌, ◌++◌, map, map-append}
use Rattle.std.proofs.Math.Nat.{mul-suc}
use Rattle.std.proofs.Math.ListN.{length, length-drop}
use Rattle.std.proofs.Math.Seq.{length-take-le}
use Rattle.state.specs.declared.State.{State}
use Rattle.calls.specs.Celp as Celp
use Rattle.calls.specs.Checks.{checked_passed}
use Rattle.calls.specs.Frames as Frames
use Rattle.calls.specs.Run.{Event, heard, run}
use Rattle.image.specs.Bytes.{Bytes, bytes_of}
use Rattle.image.specs.Parts.{bytes_of_all, all_append}
use Rattle.image.specs.Image.{unsigned, image, state}
use Rattle.desk_calls.specs.Desk.{ROOM, words, bytes, sample_bytes, decode_number, decode_image, decode_samples, samples_in, standing, frames_number, frames_image, frames_samples, frames_numbers}
use Rattle.desk_calls.specs.Images.{samples_of, number_same, samples_same}
use Rattle.desk_calls.specs.FramesSame.{standing_long, standing_back, frames_room, frames_number_same, frames_numbers_same, frames_samples_same, frames_taken}
use Rattle.desk_laws.specs.Runs.{Lent, exact, obeys_no_nans, decode_leaves, run_images, on_states, run_leaves}

-- ---- the single calls, each on the image that the one before left
unfoldable pub single_numbers : List ℕ → List ℕ → List (List ℕ) → List ℕ
single_numbers tables b [] = []
single_numbers tables b (f ∷ fs) = decode_number tables b f ROOM ∷ single_numbers tables (decode_image tables b f ROOM) fs

-- each has the next 640 bytes of the room
unfoldable pub single_samples : List ℕ → List ℕ → List (List ℕ) → List ℕ → List ℕ
single_samples tables b [] old = []
single_samples tables b (f ∷ fs) old = decode_samples tables b f (take ROOM old) ++ single_samples tables (decode_image tables b f ROOM) fs (drop ROOM old)

abbrev pub singles : List (List ℕ) → List Event
singles fs = map (λ (f : List ℕ). heard f ROOM) fs

-- ---- samples as bytes, two each
bytes_append : (xs ys : List ℤ) → sample_bytes (xs ++ ys) ≡ sample_bytes xs ++ sample_bytes ys
bytes_append xs ys = ap (bytes_of_all 2) (map-append (unsigned 2) xs ys) ∙ all_append 2 (map (unsigned 2) xs) (map (unsigned 2) ys)

bytes_take : (n : ℕ) (xs : List ℤ) → take (2 * n) (sample_bytes xs) ≡ sample_bytes (take n xs)
unfolding bytes_of_all bytes_of
bytes_take zero xs = refl
bytes_take (suc n) [] = let e : 2 * suc n ≡ suc (suc (2 * n)) = omega arith in rw e
bytes_take (suc n) (x ∷ xs) = let e : 2 * suc n ≡ suc (suc (2 * n)) = omega arith in rw (e, bytes_take n xs)

bytes_drop : (n : ℕ) (xs : List ℤ) → drop (2 * n) (sample_bytes xs) ≡ sample_bytes (drop n xs)
unfolding bytes_of_all bytes_of
bytes_drop zero xs = refl
bytes_drop (suc n) [] = let e : 2 * suc n ≡ suc (suc (2 * n)) = omega arith in rw e
bytes_drop (suc n) (x ∷ xs) = let e : 2 * suc n ≡ suc (suc (2 * n)) = omega arith in rw (e, bytes_drop n xs)

length_cut : (n : ℕ) (payloads : List ℕ) → length (Frames.cut n payloads) ≡ n
unfolding Frames.cut
length_cut zero payloads = refl
length_cut (suc n) payloads = ap suc (length_cut n (drop 20 payloads))

on_states_lem : (fs : List (List ℕ)) → map on_states (singles fs) ≡ Frames.heards fs
unfolding on_states samples_of
on_states_lem [] = refl
on_states_lem (f ∷ fs) = ap (λ (es : List Event). heard f 320 ∷ es) (on_states_lem fs)

number_is : (words : List ℤ) (bytes : List ℕ) (s : State) (payload : List ℕ) (room : ℕ) → Celp.refusal words bytes s payload room ≡ (Celp.decode words bytes s payload room).number
unfolding Celp.decode Celp.answer Celp.accepted Celp.refused
number_is words bytes s payload room = by (Celp.refusal words bytes s payload room)
  where
    by : (n : ℕ) → n ≡ (Celp.answer n words bytes s payload).number
    by zero = refl
    by (suc n) = refl

module _ (tables : List ℕ) where
  abbrev after : List ℕ → List ℕ → List ℕ
  after b f = decode_image tables b f ROOM

  state_after : (b : List ℕ) → Lent b → (f : List ℕ) → state (after b f) ≡ (Celp.decode (words tables) (bytes tables) (state b) f 320).state
  unfolding samples_of
  state_after b h f = (decode_leaves tables b h f ROOM).state_left

  numbers_single : (b : List ℕ) → Lent b → (fs : List (List ℕ)) → single_numbers tables b fs ≡ Frames.numbers (words tables) (bytes tables) (state b) fs
  unfolding single_numbers Frames.numbers samples_of
  numbers_single b h [] = refl
  numbers_single b h (f ∷ fs) =
      ap₂ ◌∷◌ (number_same tables b f ROOM h.long ∙ number_is (words tables) (bytes tables) (state b) f 320)
      (numbers_single (after b f) (decode_leaves tables b h f ROOM).lent fs ∙ ap (λ (s : State). Frames.numbers (words tables) (bytes tables) s fs) (state_after b h f))

  samples_single : (b : List ℕ) → Lent b → (fs : List (List ℕ)) (xs : List ℤ) → length xs ≡ 320 * length fs → single_samples tables b fs (sample_bytes xs) ≡ sample_bytes (Frames.samples (words tables) (bytes tables) (state b) fs xs)
  unfolding single_samples Frames.samples bytes_of_all
  samples_single b h [] xs l = refl
  samples_single b h (f ∷ fs) xs l =
      let m = mul-suc 320 (length fs) in
      let d = length-drop 320 xs in
      let t : length (take 320 xs) ≡ 320 = length-take-le 320 xs (omega arith) in
      ap₂ ◌++◌ (ap (decode_samples tables b f) (bytes_take 320 xs) ∙ samples_same tables b f (take 320 xs) h.long t)
      (ap (single_samples tables (after b f) fs) (bytes_drop 320 xs) ∙ samples_single (after b f) (decode_leaves tables b h f ROOM).lent fs (drop 320 xs) (omega arith) ∙ ap (λ (s : State). sample_bytes (Frames.samples (words tables) (bytes tables) s fs (drop 320 xs))) (state_after b h f))
      ∙ sym (bytes_append (Celp.samples (words tables) (bytes tables) (state b) f (take 320 xs)) (Frames.samples (words tables) (bytes tables) (Celp.decode (words tables) (bytes tables) (state b) f 320).state fs (drop 320 xs)))

  -- ---- frames that are taken
  module _ (b payloads old told : List ℕ) (h : Lent b) (y : Bytes old) (z : frames_number tables b payloads (length old) (length told) ≡ 0) where
    abbrev fs : List (List ℕ)
    fs = Frames.frames payloads

    taken : Frames.frames_refusal (words tables) (bytes tables) (state b) payloads (samples_in (length old)) (length told) ≡ 0
    taken = sym (frames_number_same tables b payloads (length old) (length told) h.long) ∙ z

    whole : length old ≡ 2 * samples_in (length old)
    whole = frames_room (words tables) (bytes tables) (state b) payloads (length old) (length told) taken

    as_many : length (standing old) ≡ 320 * length fs
    unfolding Frames.frames_refusal Frames.frames
    as_many =
        let p = checked_passed (words tables) (bytes tables) (state b) (Frames.frames_sizes (length payloads) (samples_in (length old)) (length told)) taken in
        let r = Frames.frames_right (length payloads) (samples_in (length old)) (length told) p.sizes_right in
        let c = length_cut (length payloads / 20) payloads in
        let s = standing_long old in
        omega (arith, r.0, r.1)

    pub frames_numbers_single : frames_numbers tables b payloads (length old) told ≡ single_numbers tables b fs
    unfolding Frames.frames_numbers Frames.numbers_by
    frames_numbers_single = frames_numbers_same tables b payloads (length old) told h.long ∙ rw taken (sym (numbers_single b h fs))

    pub frames_samples_single : frames_samples tables b payloads old (length told) ≡ single_samples tables b fs old
    unfolding Frames.frames_samples Frames.samples_by
    frames_samples_single =
        frames_samples_same tables b payloads old (length told) h.long y whole
        ∙ rw (standing_long old, taken) (sym (samples_single b h fs (standing old) as_many))
        ∙ ap (single_samples tables b fs) (standing_back old y whole)

    pub frames_image_single : frames_image tables b payloads (length old) (length told) ≡ run_images tables b (singles fs)
    unfolding Frames.frames_refusal Frames.decode_frames Frames.returned
    frames_image_single =
        let p = checked_passed (words tables) (bytes tables) (state b) (Frames.frames_sizes (length payloads) (samples_in (length old)) (length told)) taken in
        let x = exact b h (obeys_no_nans tables b h p.state_obeys) in
        frames_taken tables b payloads (length old) (length told) h.long z
        ∙ rw taken (ap (λ (es : List Event). image (run (words tables) (bytes tables) (state b) es)) (sym (on_states_lem fs)))
        ∙ sym ((run_leaves tables b h (singles fs)).image_left x)
