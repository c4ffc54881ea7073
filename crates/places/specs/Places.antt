-- Where lines stand in a text: it is gone through by places.
use Prim.Native.Nat.{ℕ, suc, ◌+◌, ◌<◌, ◌≤◌, min}
use Rattle.std.specs.Prelude.{◌≡◌, Bool, cond, eqb, ltb, length, get_or, take, drop}
use Rattle.std.proofs.Math.Path.{refl, sym, ap}
use Rattle.std.proofs.Common.{◌∙◌, arith, length-drop, drop_of_length-le, drop-drop, drop-cons, get_or-take}
use mathlib.Core.List.{List, [], ◌∷◌, ◌++◌}
use Rattle.std.proofs.Math.Bool.{true, false}
use borrow.Author.Tests.{eq-eqb, ne_eqb, ltb-true, ltb-false, lt-ltb, le-ltb}
use Rattle.std.proofs.Math.Seq.{drop-nil}
use Rattle.stream.specs.Lines.{pieces, of_pieces, lines}
use Rattle.stream.specs.Held.{push_text_lem, push_count_lem}
use Rattle.hex_lines.specs.Text.{is_only}
use Rattle.hex_lines.specs.Held.{kept, push}
use Rattle.heard.specs.Recording.{is_start}
use Rattle.places.specs.Frames.{frames_of, frames}

-- how long the first line of a text is
unfoldable pub line_end : List ℕ → ℕ
line_end input = length (pieces input).first

-- where the frames of a recording begin
unfoldable pub start_of : List ℕ → ℕ
start_of recording = cond (is_start (pieces recording).first) (min (line_end recording + 1) (length recording)) 0

-- ---- the first line, and those behind it
pub end_nil : line_end [] ≡ 0
unfolding line_end pieces
end_nil = refl

pub end_newline : (b : ℕ) (bs : List ℕ) → b ≡ 10 → line_end (b ∷ bs) ≡ 0
unfolding line_end pieces
end_newline b bs e = rw (eq-eqb b 10 e)

pub end_other : (b : ℕ) (bs : List ℕ) → (b ≡ 10 → ⊥) → line_end (b ∷ bs) ≡ suc (line_end bs)
unfolding line_end pieces
end_other b bs e = rw (ne_eqb b 10 e)

first_is : (input : List ℕ) → (pieces input).first ≡ take (line_end input) input
unfolding line_end pieces
first_is [] = refl
first_is (b ∷ bs) = by (eqb b 10) refl (first_is bs)
  where
    by : (t : Bool) → eqb b 10 ≡ t → (pieces bs).first ≡ take (length (pieces bs).first) bs → (pieces (b ∷ bs)).first ≡ take (length (pieces (b ∷ bs)).first) (b ∷ bs)
    by true e f = rw e
    by false e f = rw e (ap (λ (l : List ℕ). b ∷ l) f)

-- the lines of the pieces behind the first
others : List (List ℕ) → List (List ℕ)
others [] = []
others (next ∷ more) = of_pieces next more

others_are : (input : List ℕ) → others (pieces input).more ≡ lines (drop (suc (line_end input)) input)
unfolding others line_end pieces lines of_pieces
others_are [] = refl
others_are (b ∷ bs) = by (eqb b 10) refl (others_are bs)
  where
    by : (t : Bool) → eqb b 10 ≡ t → others (pieces bs).more ≡ lines (drop (suc (length (pieces bs).first)) bs) → others (pieces (b ∷ bs)).more ≡ lines (drop (suc (length (pieces (b ∷ bs)).first)) (b ∷ bs))
    by true e f = rw e
    by false e f = rw e f

begun : (b : ℕ) (p : List ℕ) (more : List (List ℕ)) → of_pieces (b ∷ p) more ≡ (b ∷ p) ∷ others more
unfolding of_pieces others
begun b p [] = refl
begun b p (next ∷ more) = refl

-- a text that is not empty is its first line, and the lines behind it
pub lines_cons : (b : ℕ) (bs : List ℕ) → lines (b ∷ bs) ≡ (pieces (b ∷ bs)).first ∷ lines (drop (suc (line_end (b ∷ bs))) (b ∷ bs))
unfolding lines line_end pieces of_pieces
lines_cons b bs = by (eqb b 10) refl
  where
    by : (t : Bool) → eqb b 10 ≡ t → lines (b ∷ bs) ≡ (pieces (b ∷ bs)).first ∷ lines (drop (suc (line_end (b ∷ bs))) (b ∷ bs))
    by true e = rw e
    by false e = rw e (begun b (pieces bs).first (pieces bs).more ∙ ap (λ (l : List (List ℕ)). (b ∷ (pieces bs).first) ∷ l) (others_are bs))

pub lines_none : lines [] ≡ []
unfolding lines pieces of_pieces
lines_none = refl

-- the same at a place of a text
module _ (text : List ℕ) (a : ℕ) where
  pub line_at_lem : a < length text → (pieces (drop a text)).first ≡ take (line_end (drop a text)) (drop a text)
  line_at_lem h = first_is (drop a text)

  pub lines_at : a < length text → lines (drop a text) ≡ (pieces (drop a text)).first ∷ lines (drop (suc (line_end (drop a text))) (drop a text))
  lines_at h = let d = drop-cons text a 0 h in rw d (lines_cons (get_or text a 0) (drop (suc a) text))

  -- behind its line
  pub behind_is : (r : ℕ) → r ≡ min (a + line_end (drop a text) + 1) (length text) → drop (suc (line_end (drop a text))) (drop a text) ≡ drop r text
  behind_is r e = drop-drop (suc (line_end (drop a text))) a text ∙ by (ltb (a + line_end (drop a text)) (length text)) refl
    where
      by : (t : Bool) → ltb (a + line_end (drop a text)) (length text) ≡ t → drop (a + suc (line_end (drop a text))) text ≡ drop r text
      by true p = let h = ltb-true (a + line_end (drop a text)) (length text) p in let q : a + suc (line_end (drop a text)) ≡ r = omega arith in ap (λ (n : ℕ). drop n text) q
      by false p = let h = ltb-false (a + line_end (drop a text)) (length text) p in drop_of_length-le text {i = a + suc (line_end (drop a text))} (omega arith) ∙ sym (drop_of_length-le text {i = r} (omega arith))

-- ---- where the frames begin
pub start_nil : start_of [] ≡ 0
unfolding start_of is_start is_only pieces
start_nil = refl

module _ (recording : List ℕ) where
  first_byte : line_end recording ≡ 1 → get_or (pieces recording).first 0 0 ≡ get_or recording 0 0
  first_byte e = ap (λ (l : List ℕ). get_or l 0 0) (first_is recording) ∙ get_or-take (line_end recording) recording 0 0 (omega arith)

  -- a first line of another length, of another byte, and `+`
  pub start_long : (line_end recording ≡ 1 → ⊥) → start_of recording ≡ 0
  unfolding start_of is_start is_only line_end
  start_long h = rw (ne_eqb (length (pieces recording).first) 1 h)

  pub start_other : line_end recording ≡ 1 → (get_or recording 0 0 ≡ 43 → ⊥) → start_of recording ≡ 0
  unfolding start_of is_start is_only line_end
  start_other e h = rw (eq-eqb (length (pieces recording).first) 1 e, first_byte e, ne_eqb (get_or recording 0 0) 43 h)

  pub start_plus : line_end recording ≡ 1 → get_or recording 0 0 ≡ 43 → start_of recording ≡ min (line_end recording + 1) (length recording)
  unfolding start_of is_start is_only line_end
  start_plus e h = rw (eq-eqb (length (pieces recording).first) 1 e, first_byte e, eq-eqb (get_or recording 0 0) 43 h)

-- ---- frames by their places
-- place a is where the line of frame n begins, or the end where there is none
pub record At (recording : List ℕ) (a n : ℕ) : Type 0 where
  pub within : a ≤ length recording
  pub left : lines (drop a recording) ≡ drop n (frames recording)

module _ (recording : List ℕ) where
  pub start_at : At recording (start_of recording) 0
  unfolding start_of frames frames_of
  start_at = by recording refl
    where
      of : (b : ℕ) (bs : List ℕ) (t : Bool) → is_start (pieces (b ∷ bs)).first ≡ t → At (b ∷ bs) (start_of (b ∷ bs)) 0
      of b bs true e =
          let s : start_of (b ∷ bs) ≡ min (0 + line_end (drop 0 (b ∷ bs)) + 1) (length (b ∷ bs)) = rw e (omega arith) in
          let f : frames (b ∷ bs) ≡ lines (drop (suc (line_end (b ∷ bs))) (b ∷ bs)) = rw (lines_cons b bs, e) in
          record { within = omega arith; left = ap lines (sym (behind_is (b ∷ bs) 0 (start_of (b ∷ bs)) s)) ∙ sym f }
      of b bs false e =
          let s : start_of (b ∷ bs) ≡ 0 = rw e in
          let f : frames (b ∷ bs) ≡ lines (b ∷ bs) = rw (lines_cons b bs, e) in
          record { within = omega arith; left = ap (λ (n : ℕ). lines (drop n (b ∷ bs))) s ∙ sym f }

      by : (l : List ℕ) → l ≡ recording → At l (start_of l) 0
      by [] e = let s = start_nil in let f : frames [] ≡ [] = rw lines_none in record { within = omega arith; left = ap lines (drop-nil {A = ℕ} (start_of [])) ∙ lines_none ∙ sym f }
      by (b ∷ bs) e = of b bs (is_start (pieces (b ∷ bs)).first) refl

  module _ (a n : ℕ) (at : At recording a n) where
    -- the line there is frame n's
    pub frame_at : a < length recording → drop n (frames recording) ≡ take (line_end (drop a recording)) (drop a recording) ∷ drop (n + 1) (frames recording)
    frame_at h =
        let e = sym at.left ∙ lines_at recording a h in
        let f = sym (drop-drop 1 n (frames recording)) ∙ ap (drop 1) e in
        rw (f, ← (line_at_lem recording a h)) e

    -- behind it the next one's
    pub at_more : a < length recording → (e r : ℕ) → e ≡ a + line_end (drop a recording) → r ≡ min (e + 1) (length recording) → At recording r (n + 1)
    at_more h e r p q =
        let w = behind_is recording a r (rw p at q) in
        let f = sym at.left ∙ lines_at recording a h in
        record { within = omega arith; left = ap lines (sym w) ∙ sym (sym (drop-drop 1 n (frames recording)) ∙ ap (drop 1) f) }

    -- at the end there is none
    pub none_at : length recording ≤ a → drop n (frames recording) ≡ []
    none_at h = sym at.left ∙ ap lines (drop_of_length-le recording {i = a} h) ∙ lines_none

    -- so it is the place of every frame from there on
    pub at_past : length recording ≤ a → (k : ℕ) → n ≤ k → At recording a k
    at_past h k i =
        let f = none_at h in
        let l = sym (length-drop n (frames recording)) ∙ ap length f in
        record { within = at.within; left = at.left ∙ f ∙ sym (drop_of_length-le (frames recording) {i = k} (omega arith)) }

    -- so there is one just where the place is not the end
    pub has_at : ltb a (length recording) ≡ ltb n (length (frames recording))
    has_at = by (ltb a (length recording)) refl
      where
        by : (t : Bool) → ltb a (length recording) ≡ t → ltb a (length recording) ≡ ltb n (length (frames recording))
        by true e =
            let f = frame_at (ltb-true a (length recording) e) in
            let l = sym (length-drop n (frames recording)) ∙ ap length f in
            e ∙ sym (lt-ltb n (length (frames recording)) (omega arith))
        by false e =
            let f = none_at (ltb-false a (length recording) e) in
            let l = sym (length-drop n (frames recording)) ∙ ap length f in
            e ∙ sym (le-ltb n (length (frames recording)) (omega arith))

-- ---- what is held of a line
-- a byte more
pub kept_more : (line : List ℕ) (b : ℕ) → push (kept line) b ≡ kept (line ++ (b ∷ []))
unfolding push kept
kept_more line b = rw (push_text_lem 40 line b, push_count_lem 40 line b)
