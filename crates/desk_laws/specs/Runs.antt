-- What a call leaves of an image, as a state and as bytes; that no byte is ever lost; and any sequence of calls on an image.
use Prim.Native.Nat.{ℕ, zero, suc, ◌+◌, ◌-◌, ◌*◌, ◌%◌, ◌<◌, ◌≤◌}
use Rattle.std.specs.Prelude.{◌≡◌, Bool, not, ◌&&◌, ◌⊎◌, ltb, ℤ, length, set, take}
use Rattle.std.proofs.Math.Path.{refl, sym, ap}
use Rattle.std.proofs.Common.{◌∙◌, subst, true≢false, inl, inr, ltb-true, ltb-false, length-set, length-append, get_or-set_other}
use mathlib.Core.List.{List, [], ◌∷◌, ◌++◌, map, append_assoc, append-nil}
use Rattle.std.proofs.Math.Bool.{true, false, cond}
use native.Mathlib.Omega.{arith}
use Rattle.std.proofs.Math.Dec.{T, eqb}
use Rattle.std.specs.Float.Ieee.{nan, binary32, of_bits, nan_bits, is_nan}
use Rattle.std.specs.Float.Ieee.Bits.{nan_bits_is}
use Rattle.std.proofs.Math.ListN.{get_or, length-map}
use Rattle.std.proofs.lemmas.List.{set_at}
use Rattle.sequence.specs.All.{all, all_at}
use Rattle.sequence.specs.First.{some}
use Rattle.floats.specs.Floats.{within}
use Rattle.floats.specs.Within.{within_is_number}
use Rattle.tables.specs.Places.{WORDS, BYTES}
use Rattle.tables.specs.Tables.{broken, check}
use Rattle.spectral.specs.Kept.{Words16}
use Rattle.state.specs.declared.State.{State}
use Rattle.state.specs.State.{fallen, obeys, started_by, started, reset, cold_start, missed_frame}
use Rattle.calls.specs.Celp as Celp
use Rattle.calls.specs.Accepted.{accepted_means}
use Rattle.calls.specs.StateRule.{floats_within}
use Rattle.calls.specs.Run.{Event, heard, missed, step, run}
use Rattle.image.specs.Bytes.{Bytes, bytes_of, number_at}
use Rattle.image.specs.Parts.{Part, part, bytes_of_all, numbers_at, join, cut, length_numbers, numbers_at_lem, numbers_below}
use Rattle.image.specs.Image.{SIZE, layout, signed, numbers, of_numbers, image, state, Held, NoNans}
use Rattle.image.specs.Signs.{get_or_mapped, whole_of}
use Rattle.image.specs.RoundTrips.{length_image, image_bytes, state_back, state_held, image_back}
use Rattle.desk_calls.specs.Desk.{MARK, SURE, lowered, words, bytes, reset_image, cold_image, decode_number, decode_image, missed_number, missed_image}
use Rattle.desk_laws.specs.Small.{whole_small}
use Rattle.desk_laws.specs.Held.{decode_held, zero_held, initial_held}
use Rattle.desk_calls.specs.Images.{samples_of, number_same, image_taken, image_refused, left_fallen, missed_same, missed_image_lem, state_lowered, reset_same, cold_same}

-- ---- images that a program can lend, and those that are the image of their state: all but those with a NaN's pattern
pub record Lent (b : List ℕ) : Type 0 where
  pub bytes_each : Bytes b
  pub long : length b ≡ SIZE

abbrev pub Exact : List ℕ → Type 0
Exact b = image (state b) ≡ b

pub exact : (b : List ℕ) → Lent b → NoNans b → Exact b
exact b h q = image_back b h.bytes_each q h.long

lent_image : (s : State) → Held s → Lent (image s)
lent_image s h = record { bytes_each = image_bytes s; long = length_image s h }

-- ---- the mark, and how sure it is, are an image's last bytes
join_last : (ps : List Part) (ns : List (List ℕ)) (p : Part) (n : List ℕ) → length ps ≡ length ns → join (ps ++ (p ∷ [])) (ns ++ (n ∷ [])) ≡ join ps ns ++ bytes_of_all p.width n
unfolding join
join_last [] [] p n e = append-nil (bytes_of_all p.width n)
join_last [] (m ∷ ns) p n e = absurd (omega arith)
join_last (q ∷ ps) [] p n e = absurd (omega arith)
join_last (q ∷ ps) (m ∷ ns) p n e = ap (λ (l : List ℕ). bytes_of_all q.width m ++ l) (join_last ps ns p n (omega arith)) ∙ sym (append_assoc (bytes_of_all q.width m) (join ps ns) (bytes_of_all p.width n))

-- a state's numbers but those
abbrev nine : State → List (List ℕ)
nine s = take 9 (numbers s)

abbrev front : State → List ℕ
front s = join (take 9 layout) (nine s)

image_splits : (s : State) → image s ≡ front s ++ (s.mark % 256 ∷ s.sure % 256 ∷ [])
unfolding image layout numbers bytes_of_all bytes_of
image_splits s =
    join_last (take 10 layout) (take 10 (numbers s)) (part 1 1) (s.sure ∷ []) refl
    ∙ ap (λ (l : List ℕ). l ++ (s.sure % 256 ∷ [])) (join_last (take 9 layout) (nine s) (part 1 1) (s.mark ∷ []) refl)
    ∙ append_assoc (front s) (s.mark % 256 ∷ []) (s.sure % 256 ∷ [])

front_same : (s : State) → front (fallen s) ≡ front s
unfolding numbers
front_same s = refl

lower_two : (f : List ℕ) (m u : ℕ) → length f ≡ MARK → lowered (f ++ (m ∷ u ∷ [])) ≡ f ++ (0 ∷ 0 ∷ [])
lower_two f m u l =
    let k = length-append f (0 ∷ []) in
    ap (λ (x : List ℕ). set x SURE 0) (set_at f m (u ∷ []) 0 MARK l ∙ sym (append_assoc f (0 ∷ []) (u ∷ [])))
    ∙ set_at (f ++ (0 ∷ [])) u [] 0 SURE (omega arith)
    ∙ append_assoc f (0 ∷ []) (0 ∷ [])

pub lower_image : (s : State) → Held s → image (fallen s) ≡ lowered (image s)
lower_image s h =
    let e = image_splits s in
    let l : length (front s ++ (s.mark % 256 ∷ s.sure % 256 ∷ [])) ≡ 526 = ap length (sym e) ∙ length_image s h in
    let k = length-append (front s) (s.mark % 256 ∷ s.sure % 256 ∷ []) in
    image_splits (fallen s)
    ∙ ap (λ (x : List ℕ). x ++ (0 ∷ 0 ∷ [])) (front_same s)
    ∙ sym (lower_two (front s) (s.mark % 256) (s.sure % 256) (omega arith))
    ∙ ap lowered (sym e)

-- ---- an image with 0 in both
pub lent_lowered : (b : List ℕ) → Lent b → Lent (lowered b)
lent_lowered b h = record { bytes_each = each (set b MARK 0) SURE (each b MARK h.bytes_each); long = length-set (set b MARK 0) SURE 0 ∙ length-set b MARK 0 ∙ h.long }
  where
    each : (l : List ℕ) (i : ℕ) → Bytes l → Bytes (set l i 0)
    each [] i p k = p k
    each (x ∷ l) zero p zero = omega arith
    each (x ∷ l) zero p (suc k) = p (suc k)
    each (x ∷ l) (suc i) p zero = p 0
    each (x ∷ l) (suc i) p (suc k) = each l i (λ j. p (suc j)) k

exact_lowered : (b : List ℕ) → Lent b → Exact b → lowered b ≡ image (fallen (state b))
exact_lowered b h x = ap lowered (sym x) ∙ sym (lower_image (state b) (state_held b h.bytes_each))

-- ---- one call
-- what a frame leaves: in every case an image whose state is the one that the call on states gives; and, of an exact image, that state's image
pub record Leaves (b : List ℕ) (left : List ℕ) (s : State) : Type 0 where
  pub lent : Lent left
  pub state_left : state left ≡ s
  pub image_left : Exact b → left ≡ image s

module _ (tables b : List ℕ) (h : Lent b) where
  leaves_lowered : (left : List ℕ) (s : State) → left ≡ lowered b → s ≡ fallen (state b) → Leaves b left s
  leaves_lowered left s e f =
      record {
        lent = subst Lent (sym e) (lent_lowered b h);
        state_left = ap state e ∙ state_lowered b h.long ∙ sym f;
        image_left = λ x. e ∙ exact_lowered b h x ∙ ap image (sym f);
      }

  leaves_image : (left : List ℕ) (s : State) → Held s → left ≡ image s → Leaves b left s
  leaves_image left s g e =
      record {
        lent = subst Lent (sym e) (lent_image s g);
        state_left = ap state e ∙ state_back s g;
        image_left = λ x. e;
      }

  pub decode_leaves : (payload : List ℕ) (room : ℕ) → Leaves b (decode_image tables b payload room) (Celp.decode (words tables) (bytes tables) (state b) payload (samples_of room)).state
  decode_leaves payload room = by (decode_number tables b payload room) refl
    where
      by : (n : ℕ) → decode_number tables b payload room ≡ n → Leaves b (decode_image tables b payload room) (Celp.decode (words tables) (bytes tables) (state b) payload (samples_of room)).state
      by zero e = leaves_image _ _ (decode_held (words tables) (bytes tables) (state b) (state_held b h.bytes_each) payload (samples_of room)) (image_taken tables b payload room h.long e)
      by (suc n) e = leaves_lowered _ _ (image_refused tables b payload room h.long (λ z. omega arith)) (left_fallen tables b payload room h.long (λ z. omega arith))

  pub missed_leaves : Leaves b (missed_image b) (missed_frame (state b)).state
  unfolding missed_frame
  missed_leaves = leaves_lowered (missed_image b) (fallen (state b)) (missed_image_lem b h.long) refl

  -- ---- no byte is ever lost
  -- an image with a NaN's pattern is never accepted
  float_number : (k : ℕ) → k < 34 → obeys (state b) ≡ true → T (not (is_nan (of_bits binary32 (number_at 4 b (388 + 4 * k)))))
  unfolding state of_numbers cut layout
  float_number k l o = by (ltb k 30) (ltb-true k 30) (ltb-false k 30)
    where
      at : (n first k : ℕ) → k < n → all (within 131072) (map (of_bits binary32) (numbers_at 4 n b first)) ≡ true → T (not (is_nan (of_bits binary32 (number_at 4 b (first + 4 * k)))))
      at n first k p a =
          let m = length_numbers 4 n b first in
          let e = length-map (numbers_at 4 n b first) (of_bits binary32) in
          let f : get_or (map (of_bits binary32) (numbers_at 4 n b first)) k nan ≡ of_bits binary32 (number_at 4 b (first + 4 * k)) = get_or_mapped (of_bits binary32) (numbers_at 4 n b first) k 0 nan (omega arith) ∙ ap (of_bits binary32) (numbers_at_lem 4 n b first k p) in
          let w = all_at (within 131072) (map (of_bits binary32) (numbers_at 4 n b first)) nan a k (omega arith) in
          within_is_number 131072 _ (subst T (sym (ap (within 131072) (sym f) ∙ w)) tt)

      by : (t : Bool) → (t ≡ true → k < 30) → (t ≡ false → 30 ≤ k) → T (not (is_nan (of_bits binary32 (number_at 4 b (388 + 4 * k)))))
      by true y n = at 30 388 k (y refl) (floats_within (state b) o).0
      by false y n =
          let q = n refl in
          let e : 508 + 4 * (k - 30) ≡ 388 + 4 * k = omega arith in
          subst (λ (i : ℕ). T (not (is_nan (of_bits binary32 (number_at 4 b i))))) e (at 4 508 (k - 30) (omega arith) (floats_within (state b) o).1)

  pub obeys_no_nans : obeys (state b) ≡ true → NoNans b
  obeys_no_nans o k l = nan_bits_is binary32 (number_at 4 b (388 + 4 * k)) ∙ none (is_nan (of_bits binary32 (number_at 4 b (388 + 4 * k)))) (float_number k l o)
    where
      none : (t : Bool) → T (not t) → t ≡ false
      none true p = absurd p
      none false p = refl

  pub accepted_no_nans : (payload : List ℕ) (room : ℕ) → decode_number tables b payload room ≡ 0 → NoNans b
  accepted_no_nans payload room z = obeys_no_nans (accepted_means (words tables) (bytes tables) (state b) payload (samples_of room) (sym (number_same tables b payload room h.long) ∙ z)).state_obeys

  broken_number : (ws : List ℤ) (ys : List ℕ) (s : State) (payload : List ℕ) (room : ℕ) → obeys s ≡ false → (1 ≤ Celp.refusal ws ys s payload room) × (Celp.refusal ws ys s payload room ≤ 5)
  unfolding Celp.refusal
  broken_number ws ys s payload room o = rw o (by (not (eqb (length ws) WORDS && eqb (length ys) BYTES)) (not (eqb room 320)) (not (eqb (length payload) 20)) (some (broken ws ys) 7))
    where
      by : (p q r t : Bool) → (1 ≤ cond p 1 (cond q 2 (cond r 3 (cond t 4 5)))) × (cond p 1 (cond q 2 (cond r 3 (cond t 4 5))) ≤ 5)
      by true q r t = (omega arith, omega arith)
      by false true r t = (omega arith, omega arith)
      by false false true t = (omega arith, omega arith)
      by false false false true = (omega arith, omega arith)
      by false false false false = (omega arith, omega arith)

  -- it breaks the state rule: a frame is refused with 5 at the latest, and a missed frame answers 5
  pub nan_broken : (k : ℕ) → k < 34 → nan_bits binary32 (number_at 4 b (388 + 4 * k)) ≡ true → obeys (state b) ≡ false
  nan_broken k l e = by (obeys (state b)) refl
    where
      by : (t : Bool) → obeys (state b) ≡ t → t ≡ false
      by true o = absurd (true≢false (sym e ∙ obeys_no_nans o k l))
      by false o = refl

  pub nan_refused : (payload : List ℕ) (room k : ℕ) → k < 34 → nan_bits binary32 (number_at 4 b (388 + 4 * k)) ≡ true → (1 ≤ decode_number tables b payload room) × (decode_number tables b payload room ≤ 5)
  nan_refused payload room k l e = rw (number_same tables b payload room h.long) (broken_number (words tables) (bytes tables) (state b) payload (samples_of room) (nan_broken k l e))

  pub nan_missed : (k : ℕ) → k < 34 → nan_bits binary32 (number_at 4 b (388 + 4 * k)) ≡ true → missed_number b ≡ 5
  unfolding missed_frame
  nan_missed k l e = missed_same b h.long ∙ rw (nan_broken k l e)

  before_stays : (k : ℕ) → (k ≡ MARK → ⊥) → (k ≡ SURE → ⊥) → get_or (lowered b) k 0 ≡ get_or b k 0
  before_stays k p q = get_or-set_other (set b MARK 0) SURE k 0 0 q ∙ get_or-set_other b MARK k 0 0 p

  -- a frame is accepted, and the image that it came with was exact; or each byte but the last two stays
  pub nothing_lost : (payload : List ℕ) (room : ℕ) → Exact b ⊎ ((k : ℕ) → (k ≡ MARK → ⊥) → (k ≡ SURE → ⊥) → get_or (decode_image tables b payload room) k 0 ≡ get_or b k 0)
  nothing_lost payload room = by (decode_number tables b payload room) refl
    where
      by : (n : ℕ) → decode_number tables b payload room ≡ n → Exact b ⊎ ((k : ℕ) → (k ≡ MARK → ⊥) → (k ≡ SURE → ⊥) → get_or (decode_image tables b payload room) k 0 ≡ get_or b k 0)
      by zero e = inl (exact b h (accepted_no_nans payload room e))
      by (suc n) e = inr (λ k p q. ap (λ (l : List ℕ). get_or l k 0) (image_refused tables b payload room h.long (λ z. omega arith)) ∙ before_stays k p q)

  pub missed_loses_nothing : (k : ℕ) → (k ≡ MARK → ⊥) → (k ≡ SURE → ⊥) → get_or (missed_image b) k 0 ≡ get_or b k 0
  missed_loses_nothing k p q = ap (λ (l : List ℕ). get_or l k 0) (missed_image_lem b h.long) ∙ before_stays k p q

-- ---- any sequence of calls on an image, each given the image that the one before left. An event's room is in bytes
unfoldable pub step_image : List ℕ → List ℕ → Event → List ℕ
step_image tables b (heard payload room) = decode_image tables b payload room
step_image tables b missed = missed_image b

unfoldable pub run_images : List ℕ → List ℕ → List Event → List ℕ
run_images tables b [] = b
run_images tables b (e ∷ es) = run_images tables (step_image tables b e) es

-- the same event for the calls on states, whose room is in samples
unfoldable pub on_states : Event → Event
on_states (heard payload room) = heard payload (samples_of room)
on_states missed = missed

module _ (tables : List ℕ) where
  step_leaves : (b : List ℕ) → Lent b → (e : Event) → Leaves b (step_image tables b e) (step (words tables) (bytes tables) (state b) (on_states e))
  unfolding step_image step on_states
  step_leaves b h (heard payload room) = decode_leaves tables b h payload room
  step_leaves b h missed = missed_leaves tables b h

  -- after it the image is one of the state that the calls on states lead to; and if the first image was exact, it is that state's
  pub run_leaves : (b : List ℕ) → Lent b → (es : List Event) → Leaves b (run_images tables b es) (run (words tables) (bytes tables) (state b) (map on_states es))
  unfolding run_images run
  run_leaves b h [] = record { lent = h; state_left = refl; image_left = λ x. sym x }
  run_leaves b h (e ∷ es) =
      let a = step_leaves b h e in
      let c = step_image tables b e in
      let r = run_leaves c a.lent es in
      let s = ap (λ (t : State). run (words tables) (bytes tables) t (map on_states es)) a.state_left in
      record {
        lent = r.lent;
        state_left = r.state_left ∙ s;
        image_left = λ x. r.image_left (ap image a.state_left ∙ sym (a.image_left x)) ∙ ap image s;
      }

  -- ---- where a call starts
  words_16 : Bytes tables → Words16 (words tables)
  unfolding words
  words_16 t k = whole_small 2 5963 (map (signed 2) (numbers_at 2 5963 tables 0)) (whole_of 1 5963 (numbers_at 2 5963 tables 0) (length_numbers 2 5963 tables 0) (numbers_below 2 5963 tables t 0)) (omega arith) k

  started_held : Bytes tables → (m : ℕ) → m < 256 → Held (started (words tables) (bytes tables) m).state
  unfolding started started_by
  started_held t m l = by (check (words tables) (bytes tables))
    where
      by : (n : ℕ) → Held (started_by n (words tables) (bytes tables) m).state
      by zero = initial_held (words tables) (bytes tables) (words_16 t) m l
      by (suc n) = zero_held

  -- reset and a cold start leave an exact image of the state that the call on states gives, whatever stood there
  pub reset_leaves : Bytes tables → (b : List ℕ) → Lent b → Leaves b (reset_image tables b) (reset (words tables) (bytes tables)).state
  unfolding reset
  reset_leaves t b h = leaves_image tables b h _ _ (started_held t 2 (omega arith)) (reset_same tables b h.long).1

  pub cold_leaves : Bytes tables → (b : List ℕ) → Lent b → Leaves b (cold_image tables b) (cold_start (words tables) (bytes tables)).state
  unfolding cold_start
  cold_leaves t b h = leaves_image tables b h _ _ (started_held t 0 (omega arith)) (cold_same tables b h.long).1

  -- and so does every call after them
  pub reset_run : Bytes tables → (b : List ℕ) → Lent b → (es : List Event) → run_images tables (reset_image tables b) es ≡ image (run (words tables) (bytes tables) (reset (words tables) (bytes tables)).state (map on_states es))
  reset_run t b h es =
      let a = reset_leaves t b h in
      let r = run_leaves (reset_image tables b) a.lent es in
      r.image_left (ap image a.state_left ∙ sym (reset_same tables b h.long).1) ∙ ap (λ (s : State). image (run (words tables) (bytes tables) s (map on_states es))) a.state_left

  pub cold_run : Bytes tables → (b : List ℕ) → Lent b → (es : List Event) → run_images tables (cold_image tables b) es ≡ image (run (words tables) (bytes tables) (cold_start (words tables) (bytes tables)).state (map on_states es))
  cold_run t b h es =
      let a = cold_leaves t b h in
      let r = run_leaves (cold_image tables b) a.lent es in
      r.image_left (ap image a.state_left ∙ sym (cold_same tables b h.long).1) ∙ ap (λ (s : State). image (run (words tables) (bytes tables) s (map on_states es))) a.state_left
