-- What holds of each outcome of a checked set: its number, how many subframes it has, and in which ranges their figures lie.
use Prim.Native.Nat.{ℕ, zero, suc, ◌+◌, ◌*◌, ◌≤◌, ◌<◌}
use Rattle.std.proofs.Math.Path.{◌≡◌, refl}
use mathlib.Core.List.{List, [], ◌∷◌, ◌++◌}
use Rattle.std.specs.Prelude.{Bool, cond, not, ◌&&◌, ◌||◌, eqb, ℤ, nat_abs, length, get_or}
use Rattle.std.proofs.Math.Bool.{true, false}
use Rattle.std.proofs.Common.{arith, length-append}
use Rattle.std.specs.Int.Bits.{bit_and}
use borrow.Author.Tests.{eqb-true, eq-eqb, ne_eqb, lt-ltb, le-leb}
use Rattle.sequence.specs.All.{all, and_left, and_right}
use Rattle.sequence.specs.First.{some}
use Rattle.sequence.specs.Table.{length_table}
use Rattle.tables.specs.Places.{WORDS, BYTES}
use Rattle.tables.specs.Tables.{broken, check}
use Rattle.tables.specs.Sound.{sound}
use Rattle.bits.specs.Bits.{fields_of}
use Rattle.bits.specs.Widths.{within_names, fields_within}
use Rattle.pitch.specs.Pitch.{InRange}
use Rattle.pitch.specs.Lags.{sane_integer}
use Rattle.spectral.specs.Kept.{Words16}
use Rattle.half.specs.declared.SubframeTrace.{SubframeTrace}
use Rattle.half.specs.Kept.{lags_kept, indexes_kept, classes_kept}
use Rattle.observation.specs.declared.Subframe.{Subframe}
use Rattle.observation.specs.Frame as Frame
use Rattle.state.specs.declared.State.{State}
use Rattle.state.specs.State as State
use Rattle.calls.specs.Celp as Celp
use Rattle.calls.proofs.Relied.{started_obeying}
use Rattle.calls.specs.StateRule.{Obeying}
use Rattle.calls.proofs.StateRule.{run_obeying}
use Rattle.calls.specs.Run.{heard, missed, run}
use Rattle.hex_lines.specs.Text as Text
use Rattle.heard.specs.Recording.{event, line_step, is_start, opening}
use Rattle.tally.specs.Figures.{Outcome, those, how_many, class, gain_index_of, lag_of, subframes_of, answered_with}
use Rattle.term_steps.specs.Term.{recordings, answered, outcome, outcomes_from, outcomes_of, joined, outcomes}
use Rattle.term_laws.specs.Whole.{whole_back}
use Rattle.term_laws.specs.Sums.{in_range}

-- ---- the tests
-- a number that a line may have
unfoldable pub known : ℕ → Bool
known n = eqb n 0 || eqb n 6 || eqb n 7 || eqb n 9

-- a subframe whose figures each have a place in the report
abbrev pub lag_in : Subframe → ℕ
lag_in s = lag_of s.lag

unfoldable pub placed : Subframe → Bool
placed s = in_range class 0 6 s && (in_range lag_in 19 126 s && in_range gain_index_of 0 128 s)

-- an accepted line has four such subframes, any other has none
unfoldable pub proper : Outcome → Bool
proper o = known o.number && (eqb (length o.subframes) (cond (eqb o.number 0) 4 0) && all placed o.subframes)

-- ---- a subframe of an accepted frame
placed_by : (s : Subframe) → class s ≤ 5 → 19 ≤ lag_in s → lag_in s ≤ 144 → gain_index_of s < 128 → placed s ≡ true
unfolding placed
placed_by s c l m g =
    rw (le-leb 0 (class s) (omega arith), lt-ltb (class s) 6 (omega arith), le-leb 19 (lag_in s) l, lt-ltb (lag_in s) 145 (omega arith), le-leb 0 (gain_index_of s) (omega arith), lt-ltb (gain_index_of s) 128 g)

lag_of_lem : (z : ℤ) → InRange z → lag_of z ≡ nat_abs z
unfolding lag_of
lag_of_lem z i = rw i.is

module _ (bytes : List ℕ) (t : SubframeTrace) where
  class_is : t.code_class ≤ 5 → class (Frame.reported bytes t) ≡ t.code_class
  unfolding class Frame.reported Frame.figures
  class_is h = whole_back t.code_class (omega arith)

  index_is : t.gain_index < 128 → gain_index_of (Frame.reported bytes t) ≡ t.gain_index
  unfolding gain_index_of Frame.reported Frame.figures
  index_is h = whole_back t.gain_index (omega arith)

  reported_placed : t.code_class ≤ 5 → t.gain_index < 128 → InRange t.lag.integer → placed (Frame.reported bytes t) ≡ true
  unfolding Frame.reported
  reported_placed c g l =
      let a = class_is c in
      let b = index_is g in
      let d = lag_of_lem t.lag.integer l in
      let p = l.least in
      let q = l.most in
      placed_by (Frame.reported bytes t) (omega arith) (omega arith) (omega arith) (omega arith)

four : {A : Type 0} (f : A → Bool) (a b c d : A) → f a ≡ true → f b ≡ true → f c ≡ true → f d ≡ true → all f (a ∷ b ∷ c ∷ d ∷ []) ≡ true
four f a b c d p q r s = rw (p, q, r, s)

module _ (words : List ℤ) (bytes : List ℕ) where
  module _ (s : State) (payload : List ℕ) where
    accepted_placed : all placed (Celp.answer 0 words bytes s payload).subframes ≡ true
    unfolding Celp.answer Celp.accepted Celp.decoded Frame.decode Frame.report Frame.halves Frame.half Frame.subframes
    accepted_placed =
        let i = within_names (fields_of payload) (fields_within payload) in
        let p = (fields_of payload).first in
        let q = (fields_of payload).second in
        let l = lags_kept words bytes (Celp.carried s) _ p i.0 in
        let c = classes_kept words bytes (Celp.carried s) _ p in
        let g = indexes_kept words bytes (Celp.carried s) _ p in
        let m = lags_kept words bytes _ _ q i.1 in
        let d = classes_kept words bytes _ _ q in
        let h = indexes_kept words bytes _ _ q in
        four placed _ _ _ _
        (reported_placed bytes _ c.0 g.0 (sane_integer _ l.0)) (reported_placed bytes _ c.1 g.1 (sane_integer _ l.1))
        (reported_placed bytes _ d.0 h.0 (sane_integer _ m.0)) (reported_placed bytes _ d.1 h.1 (sane_integer _ m.1))

    -- an outcome by the refusal number
    answered_proper : (n : ℕ) → known n ≡ true → proper (answered (Celp.answer n words bytes s payload)) ≡ true
    unfolding proper answered Celp.answer Celp.accepted Celp.refused Celp.decoded Frame.decode Frame.report Frame.subframes
    answered_proper zero k = rw (k, accepted_placed)
    answered_proper (suc n) k = rw (k, ne_eqb (suc n) 0 (λ e. omega arith))

  module _ (checked : check words bytes ≡ 0) where
    unbroken : some (broken words bytes) 7 ≡ false
    unfolding check
    unbroken = by (some (broken words bytes) 7) refl
      where
        by : (t : Bool) → some (broken words bytes) 7 ≡ t → some (broken words bytes) 7 ≡ false
        by false e = e
        by true e =
            let b = sound words bytes checked in
            let z : ◌≡◌ {A = ℕ} 4 0 = rw (eq-eqb (length words) WORDS b.of_words.words_long, eq-eqb (length bytes) BYTES b.of_bytes.bytes_long, e) at checked in
            absurd (omega arith)

    -- no frame of a line is refused with another number
    refusal_known : (s : State) (payload : List ℕ) → State.obeys s ≡ true → length payload ≡ 20 → known (Celp.refusal words bytes s payload 320) ≡ true
    unfolding Celp.refusal known
    refusal_known s payload o l =
        let b = sound words bytes checked in
        rw (eq-eqb (length words) WORDS b.of_words.words_long, eq-eqb (length bytes) BYTES b.of_bytes.bytes_long, eq-eqb (length payload) 20 l, unbroken, o)
        (by (eqb (bit_and (get_or payload 19 0) 0xc0) 0) (Frame.digits_fit words (fields_of payload)))
      where
        by : (p q : Bool) → known (cond (not p) 6 (cond (not q) 7 0)) ≡ true
        by false q = refl
        by true false = refl
        by true true = refl

    line_proper : (s : State) → Obeying s → (line : List ℕ) → proper (outcome words bytes s (event line)) ≡ true
    unfolding event outcome Celp.decode Text.payload proper known
    line_proper s o line = by (Text.is_frame line)
      where
        by : (t : Bool) → proper (outcome words bytes s (cond t (heard (Text.payload line) 320) missed)) ≡ true
        by true = answered_proper s (Text.payload line) (Celp.refusal words bytes s (Text.payload line) 320) (refusal_known s (Text.payload line) o.rule (length_table (Text.byte_at line) 20))
        by false = refl

-- ---- of any lines
all_append : {A : Type 0} (f : A → Bool) (xs ys : List A) → all f xs ≡ true → all f ys ≡ true → all f (xs ++ ys) ≡ true
all_append f [] ys e g = g
all_append f (x ∷ xs) ys e g = rw (and_left (f x) (all f xs) e) (all_append f xs ys (and_right (f x) (all f xs) e) g)

module _ (words : List ℤ) (bytes : List ℕ) (w : Words16 words) (checked : check words bytes ≡ 0) where
  opening_obeying : (recording : List (List ℕ)) → Obeying (opening words bytes recording).state
  unfolding opening State.reset State.cold_start
  opening_obeying [] = started_obeying words bytes w checked 0 refl
  opening_obeying (line ∷ more) = by (is_start line) refl
    where
      by : (t : Bool) → is_start line ≡ t → Obeying (opening words bytes (line ∷ more)).state
      by true e = rw e (started_obeying words bytes w checked 2 refl)
      by false e = rw e (started_obeying words bytes w checked 0 refl)

  lines_proper : (s : State) → Obeying s → (ls : List (List ℕ)) → all proper (outcomes_from words bytes s ls) ≡ true
  unfolding outcomes_from line_step run
  lines_proper s o [] = refl
  lines_proper s o (l ∷ ls) = rw (line_proper words bytes checked s o l) (lines_proper (line_step words bytes s l) (run_obeying words bytes w s (event l ∷ []) o) ls)

  recordings_proper : (rs : List (List (List ℕ))) → all proper (joined words bytes rs) ≡ true
  unfolding joined outcomes_of
  recordings_proper [] = refl
  recordings_proper (r ∷ rs) = all_append proper (outcomes_of words bytes r) (joined words bytes rs) (lines_proper (opening words bytes r).state (opening_obeying r) (opening words bytes r).lines) (recordings_proper rs)

  pub outcomes_proper : (ls : List (List ℕ)) → all proper (outcomes words bytes ls) ≡ true
  unfolding outcomes
  outcomes_proper ls = recordings_proper ((recordings ls).first ∷ (recordings ls).more)

-- ---- what that says of a list of outcomes
one_number : (n : ℕ) → known n ≡ true → cond (eqb n 0) 1 0 + cond (eqb n 6) 1 0 + cond (eqb n 7) 1 0 + cond (eqb n 9) 1 0 ≡ 1
unfolding known
one_number n k = by (eqb n 0) (eqb n 6) (eqb n 7) (eqb n 9) (eqb-true n 0) (eqb-true n 6) (eqb-true n 7) (eqb-true n 9) k
  where
    by : (a b c d : Bool) → (a ≡ true → n ≡ 0) → (b ≡ true → n ≡ 6) → (c ≡ true → n ≡ 7) → (d ≡ true → n ≡ 9) → a || b || c || d ≡ true → cond a 1 0 + cond b 1 0 + cond c 1 0 + cond d 1 0 ≡ 1
    by true true c d p q r s k = let x = p refl in let y = q refl in absurd (omega arith)
    by true false true d p q r s k = let x = p refl in let y = r refl in absurd (omega arith)
    by true false false true p q r s k = let x = p refl in let y = s refl in absurd (omega arith)
    by true false false false p q r s k = refl
    by false true true d p q r s k = let x = q refl in let y = r refl in absurd (omega arith)
    by false true false true p q r s k = let x = q refl in let y = s refl in absurd (omega arith)
    by false true false false p q r s k = refl
    by false false true true p q r s k = let x = r refl in let y = s refl in absurd (omega arith)
    by false false true false p q r s k = refl
    by false false false true p q r s k = refl
    by false false false false p q r s k = let z : ◌≡◌ {A = ℕ} 0 1 = cc in absurd (omega arith)

many_cons : {A : Type 0} (f : A → Bool) (x : A) (xs : List A) → how_many f (x ∷ xs) ≡ cond (f x) 1 0 + how_many f xs
unfolding those
many_cons f x xs = by (f x)
  where
    by : (t : Bool) → length (cond t (x ∷ those f xs) (those f xs)) ≡ cond t 1 0 + how_many f xs
    by true = omega arith
    by false = omega arith

module _ (o : Outcome) (os : List Outcome) (e : all proper (o ∷ os) ≡ true) where
  abbrev rest_of : Bool
  rest_of = eqb (length o.subframes) (cond (eqb o.number 0) 4 0) && all placed o.subframes

  head_known : known o.number ≡ true
  unfolding proper
  head_known = and_left (known o.number) rest_of (and_left (proper o) (all proper os) e)

  head_long : length o.subframes ≡ cond (eqb o.number 0) 4 0
  unfolding proper
  head_long = eqb-true _ _ (and_left (eqb (length o.subframes) (cond (eqb o.number 0) 4 0)) (all placed o.subframes) (and_right (known o.number) rest_of (and_left (proper o) (all proper os) e)))

  head_placed : all placed o.subframes ≡ true
  unfolding proper
  head_placed = and_right (eqb (length o.subframes) (cond (eqb o.number 0) 4 0)) (all placed o.subframes) (and_right (known o.number) rest_of (and_left (proper o) (all proper os) e))

  tail_proper : all proper os ≡ true
  tail_proper = and_right (proper o) (all proper os) e

pub numbers_sum : (os : List Outcome) → all proper os ≡ true → answered_with 0 os + answered_with 6 os + answered_with 7 os + answered_with 9 os ≡ length os
unfolding those
numbers_sum [] e = refl
numbers_sum (o ∷ os) e =
    let h = numbers_sum os (tail_proper o os e) in
    let k = one_number o.number (head_known o os e) in
    let a = many_cons (λ (x : Outcome). eqb x.number 0) o os in
    let b = many_cons (λ (x : Outcome). eqb x.number 6) o os in
    let c = many_cons (λ (x : Outcome). eqb x.number 7) o os in
    let d = many_cons (λ (x : Outcome). eqb x.number 9) o os in
    omega arith

pub four_each : (os : List Outcome) → all proper os ≡ true → length (subframes_of os) ≡ 4 * answered_with 0 os
unfolding subframes_of those
four_each [] e = refl
four_each (o ∷ os) e =
    let h = four_each os (tail_proper o os e) in
    let l = length-append o.subframes (subframes_of os) in
    let k = head_long o os e in
    let a = many_cons (λ (x : Outcome). eqb x.number 0) o os in
    let d = double (eqb o.number 0) in
    omega arith
  where
    double : (t : Bool) → ◌≡◌ {A = ℕ} (cond t 4 0) (4 * cond t 1 0)
    double true = refl
    double false = refl

pub all_placed : (os : List Outcome) → all proper os ≡ true → all placed (subframes_of os) ≡ true
unfolding subframes_of
all_placed [] e = refl
all_placed (o ∷ os) e = all_append placed o.subframes (subframes_of os) (head_placed o os e) (all_placed os (tail_proper o os e))
