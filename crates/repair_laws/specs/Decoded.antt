-- A repaired file that has no `=`, decoded: `refused 9` is answered at its `-` lines, and nowhere else.
use Prim.Native.Nat.{ℕ, zero, suc, ◌+◌, ◌<◌, ◌≤◌}
use Rattle.std.proofs.Math.Path.{◌≡◌, refl, ap}
use Rattle.std.proofs.Common.{sym, ◌∙◌}
use mathlib.Core.List.{List, [], ◌∷◌}
use Rattle.std.specs.Prelude.{Bool, cond, not, ◌&&◌, ◌||◌, eqb, ltb, ℤ, length}
use Rattle.std.proofs.Math.Bool.{true, false}
use Rattle.std.proofs.lemmas.Bool.{false≢true}
use native.Mathlib.Omega.{arith}
use Rattle.std.specs.Int.Bits.{bit_and}
use Rattle.std.proofs.Math.ListN.{get_or}
use borrow.Author.Tests.{eq-eqb, ne_eqb, lt-ltb, not-true}
use Rattle.sequence.specs.All.{all, all_at, and_left, and_right}
use Rattle.sequence.specs.First.{some}
use Rattle.sequence.specs.Table.{length_table}
use Rattle.stream.specs.Lines.{lines}
use Rattle.tables.specs.Places.{WORDS, BYTES}
use Rattle.tables.specs.Tables.{broken, check}
use Rattle.tables.specs.Rules.{tests}
use Rattle.bits.specs.Bits.{fields_of}
use Rattle.observation.specs.Frame as Frame
use Rattle.state.specs.declared.State.{State}
use Rattle.state.specs.State.{obeys}
use Rattle.calls.specs.Celp.{refusal, refused, accepted, answer, decode, samples}
use Rattle.calls.specs.Run.{heard}
use Rattle.hex_lines.specs.Text.{digit, is_digit, is_frame, is_only, byte_at, payload, frame_text, refused_text}
use Rattle.heard.specs.Recording.{event, blank, answer_text, text, line_text, is_start, opening}
use Rattle.mending.specs.Repair.{repaired}
use Rattle.mending.specs.Bytes.{is_lower, lower_digits}
use Rattle.mending.specs.Laws.{only_is, is_sound, is_lower_frame, Kind, equals, start, frame, dash, kind}
use Rattle.repair.specs.Files.{all_sound, repaired_sound}

-- no line is `=`
abbrev pub no_equals : List (List ℕ) → Bool
no_equals ls = all (λ l. not (is_only 61 l)) ls

-- ---- an answer is never `refused 9`
refusal_most : (words : List ℤ) (bytes : List ℕ) (s : State) (p : List ℕ) (room : ℕ) → refusal words bytes s p room ≤ 7
unfolding refusal
refusal_most words bytes s p room =
    by (not (eqb (length words) WORDS && eqb (length bytes) BYTES)) (not (eqb room 320)) (not (eqb (length p) 20)) (some (broken words bytes) 7) (not (obeys s)) (not (eqb (bit_and (get_or p 19 0) 0xc0) 0)) (not (Frame.digits_fit words (fields_of p)))
  where
    by : (a b c d e f g : Bool) → cond a 1 (cond b 2 (cond c 3 (cond d 4 (cond e 5 (cond f 6 (cond g 7 0)))))) ≤ 7
    by true b c d e f g = omega arith
    by false true c d e f g = omega arith
    by false false true d e f g = omega arith
    by false false false true e f g = omega arith
    by false false false false true f g = omega arith
    by false false false false false true g = omega arith
    by false false false false false false true = omega arith
    by false false false false false false false = omega arith

other_number : (n : ℕ) → n ≤ 7 → refused_text n ≡ refused_text 9 → ⊥
unfolding refused_text digit
other_number n h e =
    let d : cond (ltb n 10) (48 + n) (87 + n) ≡ 57 = ap (λ (l : List ℕ). get_or l 8 0) e in
    let f = rw (lt-ltb n 10 (omega arith)) at d in
    omega arith

module _ (words : List ℤ) (bytes : List ℕ) (s : State) where
  not_nine : (n : ℕ) → n ≤ 7 → (p : List ℕ) (out : List ℤ) → answer_text (answer n words bytes s p) out ≡ refused_text 9 → ⊥
  unfolding answer_text answer accepted refused frame_text refused_text
  not_nine zero h p out e = let d : ◌≡◌ {A = ℕ} 32 101 = ap (λ (l : List ℕ). get_or l 1 0) e in omega arith
  not_nine (suc n) h p out e = other_number (suc n) h (rw (ne_eqb (suc n) 0 (λ z. omega arith)) at e)

  -- ---- a line that is 40 digits or `-`
  dash_nine : (line : List ℕ) → is_only 45 line ≡ true → line_text words bytes s line ≡ refused_text 9
  unfolding line_text event is_frame text
  dash_nine line e = rw (only_is 45 line e)

  frame_not : (line : List ℕ) → is_frame line ≡ true → line_text words bytes s line ≡ refused_text 9 → ⊥
  unfolding line_text event text decode
  frame_not line e q = not_nine (refusal words bytes s (payload line) 320) (refusal_most words bytes s (payload line) 320) (payload line) (samples words bytes s (payload line) blank) (rw e at q)

-- ---- over an accepted set
-- accepted, a padding bit, a code index without a position
unfoldable pub is_answer : ℕ → Bool
is_answer n = eqb n 0 || (eqb n 6 || eqb n 7)

module _ (words : List ℤ) (bytes : List ℕ) (s : State) where
  answer_number : (n : ℕ) (p : List ℕ) → (answer n words bytes s p).number ≡ n
  unfolding answer accepted refused
  answer_number zero p = refl
  answer_number (suc n) p = refl

  frame_answer : check words bytes ≡ 0 → obeys s ≡ true → (p : List ℕ) → length p ≡ 20 → is_answer (decode words bytes s p 320).number ≡ true
  unfolding decode refusal is_answer
  frame_answer c o p l =
      let t = tests words bytes c in
      rw (answer_number (refusal words bytes s p 320) p, t.0, t.1, t.2, eq-eqb (length p) 20 l, o)
      (by (eqb (bit_and (get_or p 19 0) 0xc0) 0) (Frame.digits_fit words (fields_of p)))
    where
      by : (x y : Bool) → is_answer (cond (not x) 6 (cond (not y) 7 0)) ≡ true
      by false y = refl
      by true false = refl
      by true true = refl

-- what is left of a sound list where no line is `=`
unfoldable pub is_left : List ℕ → Bool
is_left line = is_lower_frame line || is_only 45 line

left_frame : (line : List ℕ) → is_left line ≡ true → is_only 45 line ≡ false → is_frame line ≡ true
unfolding is_left is_lower_frame is_frame
left_frame line e d = by (eqb (length line) 40) (all is_lower line) refl refl (rw d at e)
  where
    by : (a b : Bool) → eqb (length line) 40 ≡ a → all is_lower line ≡ b → (a && b) || false ≡ true → eqb (length line) 40 && all is_digit line ≡ true
    by true true p q z = rw (p, lower_digits line q)
    by true false p q z = absurd (false≢true z)
    by false b p q z = absurd (false≢true z)

only_self : (b : ℕ) → is_only b (b ∷ []) ≡ true
unfolding is_only
only_self b = eq-eqb b b refl

left_by : (opens : Bool) (line : List ℕ) → Kind opens line → is_only 61 line ≡ false → (opens ≡ true → is_only 43 line ≡ false) → is_left line ≡ true
unfolding is_left is_lower_frame
left_by opens line (equals e) n m = absurd (false≢true (sym n ∙ ap (is_only 61) e ∙ only_self 61))
left_by opens line (start o e) n m = absurd (false≢true (sym (m o) ∙ ap (is_only 43) e ∙ only_self 43))
left_by opens line (frame l e) n m = rw (l, e)
left_by opens line (dash e) n m = by (is_lower_frame line) (ap (is_only 45) e ∙ only_self 45)
  where
    by : (t : Bool) → is_only 45 line ≡ true → t || is_only 45 line ≡ true
    by true q = refl
    by false q = q

all_left : (ls : List (List ℕ)) → all_sound false ls ≡ true → no_equals ls ≡ true → all is_left ls ≡ true
unfolding all_sound
all_left [] e n = refl
all_left (line ∷ more) e n =
    let q = not-true (is_only 61 line) (and_left (not (is_only 61 line)) (no_equals more) n) in
    rw (left_by false line (kind false line (and_left (is_sound false line) (all_sound (is_only 61 line) more) e)) q (λ z. absurd (false≢true z)))
    (all_left more (rw q at (and_right (is_sound false line) (all_sound (is_only 61 line) more) e)) (and_right (not (is_only 61 line)) (no_equals more) n))

opened_left : (words : List ℤ) (bytes : List ℕ) (ls : List (List ℕ)) → all_sound true ls ≡ true → no_equals ls ≡ true → all is_left (opening words bytes ls).lines ≡ true
unfolding opening is_start all_sound
opened_left words bytes [] e n = refl
opened_left words bytes (line ∷ more) e n = by (is_only 43 line) refl
  where
    q : is_only 61 line ≡ false
    q = not-true (is_only 61 line) (and_left (not (is_only 61 line)) (no_equals more) n)

    rest : all is_left more ≡ true
    rest = all_left more (rw q at (and_right (is_sound true line) (all_sound (is_only 61 line) more) e)) (and_right (not (is_only 61 line)) (no_equals more) n)

    by : (t : Bool) → is_only 43 line ≡ t → all is_left (opening words bytes (line ∷ more)).lines ≡ true
    by true p = rw p rest
    by false p = rw (p, left_by true line (kind true line (and_left (is_sound true line) (all_sound (is_only 61 line) more) e)) q (λ z. p)) rest

-- THE STATEMENT: whatever the tables, of the lines that decode answers line k is answered with `refused 9`, from whatever state, just where it is `-`
module _ (words : List ℤ) (bytes : List ℕ) (input : List ℕ) (none : no_equals (lines (repaired input)) ≡ true) (k : ℕ) (h : k < length (opening words bytes (lines (repaired input))).lines) (s : State) where
  abbrev line : List ℕ
  line = get_or (opening words bytes (lines (repaired input))).lines k []

  pub nine_exactly : (is_only 45 line ≡ true → line_text words bytes s line ≡ refused_text 9) × (line_text words bytes s line ≡ refused_text 9 → is_only 45 line ≡ true)
  nine_exactly = (dash_nine words bytes s line, λ e. by (is_only 45 line) refl e)
    where
      by : (t : Bool) → is_only 45 line ≡ t → line_text words bytes s line ≡ refused_text 9 → is_only 45 line ≡ true
      by true d e = d
      by false d e = absurd (frame_not words bytes s line (left_frame line (all_at is_left (opening words bytes (lines (repaired input))).lines [] (opened_left words bytes (lines (repaired input)) (repaired_sound input) none) k h) d) e)

  -- of an accepted set, from a state that obeys the rule, as all do that the calls gave: any other line is a frame, and accepted, or refused with 6 or 7
  pub six_or_seven : is_only 45 line ≡ false → check words bytes ≡ 0 → obeys s ≡ true → (event line ≡ heard (payload line) 320) × (is_answer (decode words bytes s (payload line) 320).number ≡ true)
  unfolding event payload
  six_or_seven d c o =
      let f = left_frame line (all_at is_left (opening words bytes (lines (repaired input))).lines [] (opened_left words bytes (lines (repaired input)) (repaired_sound input) none) k h) d in
      (rw f, frame_answer words bytes s c o (payload line) (length_table (byte_at line) 20))
