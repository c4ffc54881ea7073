-- The ways that each call goes: what the definitions give on each.
use Prim.Native.Nat.{ℕ, zero, suc, ◌+◌, ◌-◌, ◌*◌, ◌≤◌}
use mathlib.Core.Path.{◌≡◌, refl, sym, ap, ◌∙◌}
use mathlib.Core.List.{List, [], map, append-nil}
use native.Mathlib.Omega.{arith}
use borrow.Author.Tests.{eq-eqb, ne_eqb}
use lib.IntN.{ℤ, pos}
use lib.ListN.{length, take, drop, replicate, length-map, length-drop}
use lib.Seq.{sets, sets-eq, take_all, drop-length}
use Rattle.state.specs.declared.State.{State}
use Rattle.calls.specs.declared.Answer.{Answer}
use Rattle.state.specs.declared.Returned.{Returned}
use Rattle.state.specs.State.{reset, cold_start, missed_frame}
use Rattle.calls.specs.Celp as Celp
use Rattle.calls.specs.Frames as Frames
use Rattle.image.specs.Parts.{numbers_at, length_all}
use Rattle.image.specs.Image.{signed, unsigned, image, state}
use Rattle.desk_calls.specs.Images.{refusal_small, image_started, missed_same, missed_image_lem}
use Rattle.desk_calls.specs.FramesSame.{standing_long, frames_small, frames_room}
use Rattle.desk_calls.specs.Desk.{lowered, words, bytes, sample_bytes, zeros, barred, unmarked, begun, reset_number, reset_image, cold_number, cold_image, decode_number, decode_image, decode_samples, samples_in, standing, frames_number, frames_image, frames_samples, frames_numbers, missed_number, missed_image}

-- ---- what a call on states answers is its refusal number
pub number_is : (words : List ℤ) (bytes : List ℕ) (s : State) (payload : List ℕ) (room : ℕ) → (Celp.decode words bytes s payload room).number ≡ Celp.refusal words bytes s payload room
unfolding Celp.decode Celp.answer Celp.accepted Celp.refused
number_is words bytes s payload room = by (Celp.refusal words bytes s payload room)
  where
    by : (n : ℕ) → (Celp.answer n words bytes s payload).number ≡ n
    by zero = refl
    by (suc n) = refl

-- ---- the part of the tables behind the words
pub behind : (tables : List ℕ) → take (length tables - 11926) (drop 11926 tables) ≡ bytes tables
behind tables = take_all (length tables - 11926) (drop 11926 tables) (omega (arith, length-drop 11926 tables))

-- ---- the words that were read
pub words_are : (tables : List ℕ) (n : ℕ) (l : List ℤ) → n ≡ 5963 → l ≡ map (signed 2) (numbers_at 2 n tables 0) → l ≡ words tables
unfolding words
words_are tables n l h e = e ∙ ap (λ (k : ℕ). map (signed 2) (numbers_at 2 k tables 0)) h

-- ---- the call on states was given what the definitions give it
module _ (tables b payload : List ℕ) (ws : List ℤ) (ys : List ℕ) (s : State) (p : ws ≡ words tables) (q : ys ≡ take (length tables - 11926) (drop 11926 tables)) (r : s ≡ state b) where
  pub answer_is : (a : Answer) (room : ℕ) → room ≡ 320 → a ≡ Celp.decode ws ys s payload room → a ≡ Celp.decode (words tables) (bytes tables) (state b) payload 320
  answer_is a room t e = e ∙ (λ i. Celp.decode (p i) ((q ∙ behind tables) i) (r i) payload (t i))

  pub samples_are : (xs old : List ℤ) → old ≡ replicate 320 (pos 0) → xs ≡ Celp.samples ws ys s payload old → xs ≡ Celp.samples (words tables) (bytes tables) (state b) payload (replicate 320 (pos 0))
  samples_are xs old t e = e ∙ (λ i. Celp.samples (p i) ((q ∙ behind tables) i) (r i) payload (t i))

pub started_is : (tables : List ℕ) (ws : List ℤ) (ys : List ℕ) → ws ≡ words tables → ys ≡ take (length tables - 11926) (drop 11926 tables) → (call : List ℤ → List ℕ → Returned) (x : Returned) → x ≡ call ws ys → x ≡ call (words tables) (bytes tables)
started_is tables ws ys p q call x e = e ∙ (λ i. call (p i) ((q ∙ behind tables) i))

-- ---- the samples fill their room
pub filled : (old : List ℕ) (xs : List ℤ) → length old ≡ 2 * length xs → sets old 0 (sample_bytes xs) ≡ sample_bytes xs
filled old xs h =
    let m = length-map xs (unsigned 2) in
    let l = length_all 2 (map (unsigned 2) xs) in
    let k : 0 + length (sample_bytes xs) ≡ length old = omega arith in
    let d : drop (0 + length (sample_bytes xs)) old ≡ [] = ap (λ (n : ℕ). drop n old) k ∙ drop-length old in
    sets-eq (sample_bytes xs) old 0 (omega arith) ∙ rw d (append-nil (sample_bytes xs))

-- ---- reset and cold start
module _ (tables b : List ℕ) where
  pub reset_eleven : (length b ≡ 526 → ⊥) → (11 ≡ reset_number tables b) × (b ≡ reset_image tables b)
  unfolding reset_number reset_image barred begun
  reset_eleven h = rw (ne_eqb (length b) 526 h) (refl, refl)

  pub reset_one : length b ≡ 526 → (length tables ≡ 15834 → ⊥) → (1 ≡ reset_number tables b) × (zeros 526 ≡ reset_image tables b)
  unfolding reset_number reset_image barred begun
  reset_one h t = rw (eq-eqb (length b) 526 h, ne_eqb (length tables) 15834 t) (refl, refl)

  pub cold_eleven : (length b ≡ 526 → ⊥) → (11 ≡ cold_number tables b) × (b ≡ cold_image tables b)
  unfolding cold_number cold_image barred begun
  cold_eleven h = rw (ne_eqb (length b) 526 h) (refl, refl)

  pub cold_one : length b ≡ 526 → (length tables ≡ 15834 → ⊥) → (1 ≡ cold_number tables b) × (zeros 526 ≡ cold_image tables b)
  unfolding cold_number cold_image barred begun
  cold_one h t = rw (eq-eqb (length b) 526 h, ne_eqb (length tables) 15834 t) (refl, refl)

  module _ (h : length b ≡ 526) (t : length tables ≡ 15834) (r : Returned) (i : List ℕ) where
    pub reset_told : r ≡ reset (words tables) (bytes tables) → i ≡ image r.state → (r.number ≡ reset_number tables b) × (i ≡ reset_image tables b)
    unfolding reset_number reset_image barred reset
    reset_told e p = rw (eq-eqb (length b) 526 h, eq-eqb (length tables) 15834 t) (ap (λ (x : Returned). x.number) e, p ∙ ap (λ (x : Returned). image x.state) e ∙ image_started tables b 2)

    pub cold_told : r ≡ cold_start (words tables) (bytes tables) → i ≡ image r.state → (r.number ≡ cold_number tables b) × (i ≡ cold_image tables b)
    unfolding cold_number cold_image barred cold_start
    cold_told e p = rw (eq-eqb (length b) 526 h, eq-eqb (length tables) 15834 t) (ap (λ (x : Returned). x.number) e, p ∙ ap (λ (x : Returned). image x.state) e ∙ image_started tables b 0)

-- ---- a missed frame
module _ (b : List ℕ) where
  pub missed_eleven : (length b ≡ 526 → ⊥) → (11 ≡ missed_number b) × (b ≡ missed_image b)
  unfolding missed_number missed_image unmarked
  missed_eleven h = rw (ne_eqb (length b) 526 h) (refl, refl)

  pub missed_told : (r : Returned) (i : List ℕ) → length b ≡ 526 → r ≡ missed_frame (state b) → i ≡ lowered b → (r.number ≡ missed_number b) × (i ≡ missed_image b)
  missed_told r i h e l = (ap (λ (x : Returned). x.number) e ∙ sym (missed_same b h), l ∙ sym (missed_image_lem b h))

-- ---- a frame
module _ (tables b payload old : List ℕ) where
  abbrev pub Told : ℕ → List ℕ → List ℕ → Type 0
  Told n i s = (n ≡ decode_number tables b payload (length old)) × ((i ≡ decode_image tables b payload (length old)) × (s ≡ decode_samples tables b payload old))

  -- an image that was lowered is told as its definition is
  pub lowered_told : (n : ℕ) (i s : List ℕ) → i ≡ lowered b → Told n (lowered b) s → Told n i s
  lowered_told n i s e t = (t.0, (e ∙ t.1.0, t.1.1))

  pub decode_eleven : (length b ≡ 526 → ⊥) → Told 11 b old
  unfolding decode_number decode_image decode_samples barred unmarked
  decode_eleven h = rw (ne_eqb (length b) 526 h) (refl, (refl, refl))

  module _ (h : length b ≡ 526) where
    pub decode_one : (length tables ≡ 15834 → ⊥) → Told 1 (lowered b) old
    unfolding decode_number decode_image decode_samples barred unmarked
    decode_one t = rw (eq-eqb (length b) 526 h, ne_eqb (length tables) 15834 t) (refl, (refl, refl))

    module _ (t : length tables ≡ 15834) where
      pub decode_two : (length old ≡ 640 → ⊥) → Told 2 (lowered b) old
      unfolding decode_number decode_image decode_samples barred unmarked
      decode_two r = rw (eq-eqb (length b) 526 h, eq-eqb (length tables) 15834 t, ne_eqb (length old) 640 r) (refl, (refl, refl))

      module _ (r : length old ≡ 640) (a : Answer) (e : a ≡ Celp.decode (words tables) (bytes tables) (state b) payload 320) where
        abbrev why : ℕ
        why = Celp.refusal (words tables) (bytes tables) (state b) payload 320

        answered : a.number ≡ why
        answered = ap (λ (x : Answer). x.number) e ∙ number_is (words tables) (bytes tables) (state b) payload 320

        reached : decode_number tables b payload (length old) ≡ why
        unfolding decode_number barred
        reached = rw (eq-eqb (length b) 526 h, eq-eqb (length tables) 15834 t, eq-eqb (length old) 640 r)

        pub decode_refused : (a.number ≡ 0 → ⊥) → Told a.number (lowered b) old
        unfolding decode_image decode_samples unmarked
        decode_refused z =
            let l = refusal_small (words tables) (bytes tables) (state b) payload 320 in
            let q = answered in
            rw (reached, ne_eqb why 0 (λ k. z (q ∙ k)), ne_eqb why 11 (λ k. omega arith)) (q, (refl, refl))

        pub decode_taken : a.number ≡ 0 → (i s : List ℕ) → i ≡ image a.state → s ≡ sample_bytes (Celp.samples (words tables) (bytes tables) (state b) payload (replicate 320 (pos 0))) → Told 0 i s
        unfolding decode_image decode_samples
        decode_taken z i s p q =
            let n : why ≡ 0 = sym answered ∙ z in
            rw (reached, n) (refl, (p ∙ ap (λ (x : Answer). image x.state) e, q))

-- ---- 1 to 64 frames
pub front_long : (n m : ℕ) → n ≤ m → length (take n (replicate m (pos 0))) ≡ n
front_long zero m h = refl
front_long (suc n) zero h = absurd (omega arith)
front_long (suc n) (suc m) h = ap suc (front_long n m (omega arith))

pub standing_are : (old : List ℕ) (n : ℕ) (xs : List ℤ) → n ≡ samples_in (length old) → xs ≡ map (signed 2) (numbers_at 2 n old 0) → xs ≡ standing old
unfolding standing
standing_are old n xs h e = e ∙ ap (λ (k : ℕ). map (signed 2) (numbers_at 2 k old 0)) h

pub number_given : (words : List ℤ) (bytes : List ℕ) (s : State) (payloads : List ℕ) (room answers : ℕ) → (Frames.decode_frames words bytes s payloads room answers).number ≡ Frames.frames_refusal words bytes s payloads room answers
unfolding Frames.decode_frames Frames.returned
number_given words bytes s payloads room answers = by (Frames.frames_refusal words bytes s payloads room answers)
  where
    by : (n : ℕ) → (Frames.returned words bytes n s payloads).number ≡ n
    by zero = refl
    by (suc n) = refl

pub numbers_kept : (words : List ℤ) (bytes : List ℕ) (s : State) (payloads : List ℕ) (room : ℕ) (told : List ℕ) → (Frames.frames_refusal words bytes s payloads room (length told) ≡ 0 → ⊥) → Frames.frames_numbers words bytes s payloads room told ≡ told
unfolding Frames.frames_numbers Frames.numbers_by
numbers_kept words bytes s payloads room told = by (Frames.frames_refusal words bytes s payloads room (length told))
  where
    by : (n : ℕ) → (n ≡ 0 → ⊥) → Frames.numbers_by words bytes n s payloads told ≡ told
    by zero h = absurd (h refl)
    by (suc n) h = refl

module _ (tables b payloads old told : List ℕ) where
  abbrev pub AllTold : ℕ → List ℕ → List ℕ → List ℕ → Type 0
  AllTold n i s m = (n ≡ frames_number tables b payloads (length old) (length told)) × ((i ≡ frames_image tables b payloads (length old) (length told)) × ((s ≡ frames_samples tables b payloads old (length told)) × (m ≡ frames_numbers tables b payloads (length old) told)))

  pub lowered_all : (n : ℕ) (i s m : List ℕ) → i ≡ lowered b → AllTold n (lowered b) s m → AllTold n i s m
  lowered_all n i s m e t = (t.0, (e ∙ t.1.0, t.1.1))

  pub frames_eleven : (length b ≡ 526 → ⊥) → AllTold 11 b old told
  unfolding frames_number frames_image frames_samples frames_numbers barred unmarked
  frames_eleven h = rw (ne_eqb (length b) 526 h) (refl, (refl, (refl, refl)))

  module _ (h : length b ≡ 526) where
    pub frames_one : (length tables ≡ 15834 → ⊥) → AllTold 1 (lowered b) old told
    unfolding frames_number frames_image frames_samples frames_numbers barred unmarked
    frames_one t = rw (eq-eqb (length b) 526 h, ne_eqb (length tables) 15834 t) (refl, (refl, (refl, refl)))

    -- the call on states was given what the definitions give it
    module _ (t : length tables ≡ 15834) (ws : List ℤ) (ys : List ℕ) (s : State) (xs : List ℤ) (p : ws ≡ words tables) (q : ys ≡ take (length tables - 11926) (drop 11926 tables)) (r : s ≡ state b) (x : xs ≡ standing old) where
      abbrev cause : ℕ
      cause = Frames.frames_refusal (words tables) (bytes tables) (state b) payloads (samples_in (length old)) (length told)

      comes : frames_number tables b payloads (length old) (length told) ≡ cause
      unfolding frames_number barred
      comes = rw (eq-eqb (length b) 526 h, eq-eqb (length tables) 15834 t)

      module _ (a : Returned) (e : a ≡ Frames.decode_frames ws ys s payloads (length xs) (length told)) (m : List ℕ) (f : m ≡ Frames.frames_numbers ws ys s payloads (length xs) told) where
        given : a ≡ Frames.decode_frames (words tables) (bytes tables) (state b) payloads (samples_in (length old)) (length told)
        given = e ∙ (λ i. Frames.decode_frames (p i) ((q ∙ behind tables) i) (r i) payloads ((ap length x ∙ standing_long old) i) (length told))

        told_are : m ≡ Frames.frames_numbers (words tables) (bytes tables) (state b) payloads (samples_in (length old)) told
        told_are = f ∙ (λ i. Frames.frames_numbers (p i) ((q ∙ behind tables) i) (r i) payloads ((ap length x ∙ standing_long old) i) told)

        pub answered_cause : a.number ≡ cause
        answered_cause = ap (λ (y : Returned). y.number) given ∙ number_given (words tables) (bytes tables) (state b) payloads (samples_in (length old)) (length told)

        pub frames_declined : (a.number ≡ 0 → ⊥) → AllTold a.number (lowered b) old m
        unfolding frames_image frames_samples frames_numbers unmarked
        frames_declined z =
            let l = frames_small (words tables) (bytes tables) (state b) payloads (samples_in (length old)) (length told) in
            let g = answered_cause in
            let k = numbers_kept (words tables) (bytes tables) (state b) payloads (samples_in (length old)) told (λ n. z (g ∙ n)) in
            rw (comes, ne_eqb cause 0 (λ n. z (g ∙ n)), ne_eqb cause 11 (λ n. omega arith)) (g, (refl, (refl, told_are ∙ k)))

        pub frames_accepted : a.number ≡ 0 → (i c : List ℕ) (zs : List ℤ) → i ≡ image a.state → length zs ≡ length xs → zs ≡ Frames.frames_samples ws ys s payloads xs (length told) → c ≡ sets old 0 (sample_bytes zs) → AllTold 0 i c m
        unfolding frames_image frames_samples frames_numbers
        frames_accepted z i c zs k u v w =
            let n : cause ≡ 0 = sym answered_cause ∙ z in
            let o = frames_room (words tables) (bytes tables) (state b) payloads (length old) (length told) n in
            let l : length zs ≡ samples_in (length old) = u ∙ ap length x ∙ standing_long old in
            let g : zs ≡ Frames.frames_samples (words tables) (bytes tables) (state b) payloads (standing old) (length told) = v ∙ (λ j. Frames.frames_samples (p j) ((q ∙ behind tables) j) (r j) payloads (x j) (length told)) in
            rw (comes, n) (refl, (k ∙ ap (λ (y : Returned). image y.state) given, (w ∙ filled old zs (omega arith) ∙ ap sample_bytes g, told_are)))
