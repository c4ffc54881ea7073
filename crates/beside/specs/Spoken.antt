-- Any cutting of the two inputs: what the calls tell, joined, is the program's text.
use Prim.Native.Nat.{ℕ, zero, suc, ◌+◌, ◌-◌, ◌*◌, ◌<◌, ◌≤◌, min}
use Rattle.std.specs.Prelude.{◌≡◌, Bool, not, ◌&&◌, ◌||◌, ◌⊎◌, leb}
use Rattle.std.proofs.Math.Path.{refl, ap}
use Rattle.std.proofs.Common.{sym, ◌∙◌, true≢false, add-one, length-drop, take-append-drop, drop_of_length-le, take_all}
use mathlib.Core.List.{List, [], ◌∷◌, ◌++◌, append_assoc, append-nil}
use Rattle.std.proofs.Math.Bool.{true, false, cond}
use Rattle.std.proofs.Math.Logic.{inl, inr}
use native.Mathlib.Omega.{arith}
use Rattle.std.proofs.Math.Dec.{eqb, ltb}
use Rattle.std.proofs.Math.ListN.{length, take, drop, length-append, length-take}
use Rattle.std.proofs.Math.Seq.{take_at, drop-nil}
use Rattle.std.proofs.lemmas.List.{drop-append-le}
use borrow.Author.Tests.{ne_eqb, eqb-true, eqb-false, lt-ltb, le-ltb, ltb-true, ltb-false, le-leb, lt-leb, leb-true, leb-false}
use Rattle.sequence.specs.All.{and_left, and_right}
use Rattle.stream.specs.Lines.{pieces, of_pieces, lines, plain, line_first, line_last}
use Rattle.stream.specs.Machine.{fed_all, written_all, fed_append, written_append}
use Rattle.stream.specs.Room.{over}
use Rattle.stream.specs.Decimal.{decimal}
use Rattle.stream.specs.Reads.{Read, input_of, answers_joined}
use Rattle.stream.specs.Reads as Reads
use Rattle.hex_lines.specs.Held as Held
use Rattle.table_file.specs.File as File
use Rattle.state.specs.State as Start
use Rattle.state.specs.declared.State.{State}
use Rattle.heard.specs.declared.Recorder.{Recorder}
use Rattle.heard.specs.Recording.{transcript, is_start, line_step, line_text, tables_text}
use Rattle.heard.specs.Start as Begin
use Rattle.recording.specs.Feed as Feed
use Rattle.recording.proofs.Told.{transcript_told}
use Rattle.verdict.specs.Verdict.{same, is_frame, is_refusal, known, head, says, what, refusal, sixteen, difference, added, next, judge}
use Rattle.verdict.specs.Same.{same_not}
use Rattle.verdict.specs.Kept.{Kept, kept, Keeps, keeps_none, keeps_all}
use Rattle.verdict.specs.Round.{up_to, round, last}
use Rattle.judging.specs.declared.Judge.{Judge}
use Rattle.judging.specs.declared.Heard.{Heard}
use Rattle.beside.specs.Beside.{output, program}
use Rattle.judging.specs.Talk.{begin, ours_text, closed, hear_ours, end_text, again, final, ended, kept_with, more, hear_theirs, theirs_held, theirs_text}
use Rattle.beside.specs.Long.{Ten, reset_ten, cold_ten, line_ten, One, line_one}

-- ---- where a comparison stands, with what the lent buffers hold
pub record Standing : Type 0 where
  pub judge : Judge
  pub text : List ℕ
  pub held : List ℕ

-- a turn of the recording's, and one of the supplier's
unfoldable pub after_ours : List ℕ → Standing → List ℕ → Standing
after_ours file s chunk = record { judge = (hear_ours file s.judge chunk).judge; text = over (ours_text file s.judge chunk) s.text; held = s.held }

unfoldable pub after_theirs : Standing → List ℕ → Standing
after_theirs s chunk = record { judge = (hear_theirs s.judge s.text s.held chunk).judge; text = s.text; held = theirs_held s.judge s.held chunk }

abbrev pub told_of : Standing → List ℕ → List ℕ
told_of s chunk = theirs_text s.judge s.text s.held chunk

-- turn by turn, until all is told: the input whose turn it is gives some bytes, at most one more than the number that the turn has, and nothing only at its end; what
-- the call did not use is read again
unfoldable pub spoken : List ℕ → List ℕ → Standing → List ℕ → List ℕ → List ℕ
spoken file [] s a b = []
spoken file (k ∷ ks) s a b =
    cond s.judge.told []
    (cond s.judge.theirs
    (told_of s (take (suc k) b) ++ spoken file ks (after_theirs s (take (suc k) b)) a (drop (hear_theirs s.judge s.text s.held (take (suc k) b)).used b))
    (spoken file ks (after_ours file s (take (suc k) a)) (drop (hear_ours file s.judge (take (suc k) a)).used a) b))

-- ---- a chunk up to its first newline
pub record Cut (chunk : List ℕ) : Type 0 where
  pub plain_first : plain (pieces chunk).first ≡ true
  pub within : length (pieces chunk).first ≤ length chunk
  pub taken : take (length (pieces chunk).first) chunk ≡ (pieces chunk).first
  pub split : length (pieces chunk).first < length chunk → drop (length (pieces chunk).first) chunk ≡ 10 ∷ drop (suc (length (pieces chunk).first)) chunk

cut : (chunk : List ℕ) → Cut chunk
unfolding pieces
cut [] = record { plain_first = refl; within = omega arith; taken = refl; split = λ h. absurd (omega arith) }
cut (b ∷ bs) = by (eqb b 10) refl (cut bs)
  where
    by : (t : Bool) → eqb b 10 ≡ t → Cut bs → Cut (b ∷ bs)
    by true e c = record { plain_first = rw e; within = rw e (omega arith); taken = rw e; split = λ h. rw (e, eqb-true b 10 e) }
    by false e c =
        let w = c.within in
        record {
          plain_first = rw (e, c.plain_first, e);
          within = rw e (omega arith);
          taken = rw (e, c.taken);
          split = λ h. rw e (c.split (let g = rw e at h in omega arith));
        }

-- ---- what is held of their line tells the same as the line
module _ (line : List ℕ) (k : Kept) (s : Keeps line k) where
  long_all : 1283 < length line → take k.n k.held ≡ k.held
  long_all h = let c = s.count in let l = s.long in take_all k.n k.held (omega arith)

  frame_long : (t : List ℕ) → 1282 < length t → is_frame t ≡ false
  unfolding is_frame
  frame_long t h = rw (ne_eqb (length t) 1282 (λ e. omega arith))

  told_by : {A : Type 0} (f : List ℕ → A) → (1283 < length line → f k.held ≡ f line) → f (take k.n k.held) ≡ f line
  told_by f g = by (leb (length line) 1283) refl
    where
      by : (t : Bool) → leb (length line) 1283 ≡ t → f (take k.n k.held) ≡ f line
      by true e = ap f (s.whole (leb-true (length line) 1283 e))
      by false e = let h = leb-false (length line) 1283 e in ap f (long_all h) ∙ g h

  known_told : known (take k.n k.held) ≡ known line
  unfolding known
  known_told = told_by (λ (t : List ℕ). is_frame t || is_refusal t) (λ h. let l = s.long in rw (frame_long k.held (omega arith), frame_long line (omega arith)) (s.refused (omega arith)))

  added_told : (n : ℕ) → added n (take k.n k.held) ≡ added n line
  unfolding added
  added_told n = rw known_told

  what_told : (o : List ℕ) → what o (take k.n k.held) ≡ what o line
  unfolding what known
  what_told o =
      told_by (what o) (λ h. let l = s.long in rw (frame_long k.held (omega arith), frame_long line (omega arith), s.refused (omega arith)) (by (is_frame o) _ _))
    where
      by : (f : Bool) (x y : List ℕ) → cond (is_refusal line) (cond (f && false) x refusal) sixteen ≡ cond (is_refusal line) (cond (f && false) y refusal) sixteen
      by true x y = refl
      by false x y = refl

  difference_told : (n : ℕ) (o : List ℕ) → difference n o (take k.n k.held) ≡ difference n o line
  unfolding difference
  difference_told n o = ap (says n) (what_told o)

  same_told : (o : List ℕ) → length o ≤ 1282 → leb k.n 1283 && same o (take k.n k.held) ≡ same o line
  same_told o h = by (leb (length line) 1283) refl
    where
      by : (t : Bool) → leb (length line) 1283 ≡ t → leb k.n 1283 && same o (take k.n k.held) ≡ same o line
      by true e =
          let c = s.count in
          let l = leb-true (length line) 1283 e in
          rw (le-leb k.n 1283 (omega arith), s.whole l)
      by false e =
          let c = s.count in
          let l = leb-false (length line) 1283 e in
          rw (lt-leb k.n 1283 (omega arith), same_not o line (λ q. omega arith))

-- ---- our lines, as they are answered
module _ (file : List ℕ) where
  abbrev fed : Recorder → ℕ → Recorder
  fed = Feed.fed_by file

  abbrev written : Recorder → ℕ → List ℕ
  written = Feed.written_by file

  abbrev ending : Recorder → List ℕ
  ending = Feed.ending_by file

  abbrev wrote : Recorder → List ℕ → List ℕ
  wrote r a = written_all fed written r a

  -- the lines of the rest of a recording
  abbrev ours_of : Recorder → List ℕ → List (List ℕ)
  ours_of r a = lines (wrote r a ++ ending (fed_all fed r a))

  -- a text is none, or one line
  end_one : (first : Bool) (st : State) (line : List ℕ) → Ten st → (Feed.end_text (File.words file) (File.bytes file) first st line ≡ []) ⊎ One (Feed.end_text (File.words file) (File.bytes file) first st line)
  unfolding Feed.end_text
  end_one first st line h = by (first && is_start line)
    where
      by : (t : Bool) → (cond t [] (line_text (File.words file) (File.bytes file) st line) ≡ []) ⊎ One (cond t [] (line_text (File.words file) (File.bytes file) st line))
      by true = inl refl
      by false = inr (line_one (File.words file) (File.bytes file) st line h)

  written_one : (r : Recorder) (b : ℕ) → Ten r.state → (written r b ≡ []) ⊎ One (written r b)
  unfolding Feed.written
  written_one r b h = by (eqb b 10)
    where
      by : (t : Bool) → (cond t (Feed.end_text (File.words file) (File.bytes file) r.first r.state (Held.held_line r.line)) [] ≡ []) ⊎ One (cond t (Feed.end_text (File.words file) (File.bytes file) r.first r.state (Held.held_line r.line)) [])
      by true = end_one r.first r.state (Held.held_line r.line) h
      by false = inl refl

  ending_one : (r : Recorder) → Ten r.state → (ending r ≡ []) ⊎ One (ending r)
  unfolding Feed.ending
  ending_one r h = by (eqb r.line.n 0)
    where
      by : (t : Bool) → (cond t [] (Feed.end_text (File.words file) (File.bytes file) r.first r.state (Held.held_line r.line)) ≡ []) ⊎ One (cond t [] (Feed.end_text (File.words file) (File.bytes file) r.first r.state (Held.held_line r.line)))
      by true = inl refl
      by false = end_one r.first r.state (Held.held_line r.line) h

  fed_ten : (r : Recorder) (b : ℕ) → Ten r.state → Ten (fed r b).state
  unfolding Feed.fed Feed.end_step
  fed_ten r b h = by (eqb b 10) (r.first && is_start (Held.held_line r.line))
    where
      by : (t u : Bool) → Ten (cond t (Feed.standing false (cond u (Start.reset (File.words file) (File.bytes file)).state (line_step (File.words file) (File.bytes file) r.state (Held.held_line r.line))) (Held.kept [])) (Feed.standing r.first r.state (Held.push r.line b))).state
      by true true = reset_ten (File.words file) (File.bytes file)
      by true false = line_ten (File.words file) (File.bytes file) r.state (Held.held_line r.line) h
      by false u = h

  all_ten : (r : Recorder) (a : List ℕ) → Ten r.state → Ten (fed_all fed r a).state
  unfolding fed_all
  all_ten r [] h = h
  all_ten r (b ∷ bs) h = all_ten (fed r b) bs (fed_ten r b h)

  closed_ending : (r : Recorder) → ending (closed r) ≡ []
  unfolding Feed.ending Held.kept
  closed_ending r = refl

  -- what is answered up to a newline
  up_to_newline : (b : ℕ) (bs : List ℕ) → eqb b 10 ≡ true → up_to (b ∷ bs) ≡ 1
  unfolding up_to pieces
  up_to_newline b bs e = rw (e, lt-ltb 0 (suc (length bs)) (omega arith))

  up_to_other : (b : ℕ) (bs : List ℕ) → eqb b 10 ≡ false → up_to (b ∷ bs) ≡ suc (up_to bs)
  unfolding up_to pieces
  up_to_other b bs e = rw e (by (ltb (length (pieces bs).first) (length bs)) refl)
    where
      by : (t : Bool) → ltb (length (pieces bs).first) (length bs) ≡ t → cond (ltb (suc (length (pieces bs).first)) (suc (length bs))) (suc (length (pieces bs).first) + 1) (suc (length (pieces bs).first)) ≡ suc (cond t (length (pieces bs).first + 1) (length (pieces bs).first))
      by true q = let h = ltb-true (length (pieces bs).first) (length bs) q in rw (lt-ltb (suc (length (pieces bs).first)) (suc (length bs)) (omega arith)) (omega arith)
      by false q = let h = ltb-false (length (pieces bs).first) (length bs) q in rw (le-ltb (suc (length (pieces bs).first)) (suc (length bs)) (omega arith))

  up_to_none : up_to [] ≡ 0
  unfolding up_to pieces
  up_to_none = refl

  up_to_le : (chunk : List ℕ) → up_to chunk ≤ length chunk
  up_to_le [] = let u = up_to_none in omega arith
  up_to_le (b ∷ bs) = by (eqb b 10) refl (up_to_le bs)
    where
      by : (t : Bool) → eqb b 10 ≡ t → up_to bs ≤ length bs → up_to (b ∷ bs) ≤ suc (length bs)
      by true e h = let u = up_to_newline b bs e in omega arith
      by false e h = let u = up_to_other b bs e in omega arith

  up_to_some : (b : ℕ) (bs : List ℕ) → 0 < up_to (b ∷ bs)
  up_to_some b bs = by (eqb b 10) refl
    where
      by : (t : Bool) → eqb b 10 ≡ t → 0 < up_to (b ∷ bs)
      by true e = let u = up_to_newline b bs e in omega arith
      by false e = let u = up_to_other b bs e in omega arith

  quiet : (r : Recorder) (b : ℕ) → eqb b 10 ≡ false → written r b ≡ []
  unfolding Feed.written
  quiet r b e = rw e

  piece_one : (chunk : List ℕ) (r : Recorder) → Ten r.state → (wrote r (take (up_to chunk) chunk) ≡ []) ⊎ One (wrote r (take (up_to chunk) chunk))
  unfolding written_all
  piece_one [] r h = inl (rw (up_to_none))
  piece_one (b ∷ bs) r h = by (eqb b 10) refl (piece_one bs (fed r b) (fed_ten r b h))
    where
      by : (t : Bool) → eqb b 10 ≡ t → (wrote (fed r b) (take (up_to bs) bs) ≡ []) ⊎ One (wrote (fed r b) (take (up_to bs) bs)) → (wrote r (take (up_to (b ∷ bs)) (b ∷ bs)) ≡ []) ⊎ One (wrote r (take (up_to (b ∷ bs)) (b ∷ bs)))
      by true e then = rw (up_to_newline b bs e, append-nil) (written_one r b h)
      by false e then = rw (up_to_other b bs e, quiet r b e) then

  -- our lines from a piece on
  ours_none : (r : Recorder) (piece rest : List ℕ) → wrote r piece ≡ [] → ours_of r (piece ++ rest) ≡ ours_of (fed_all fed r piece) rest
  ours_none r piece rest e = rw (written_append fed written r piece rest, fed_append fed r piece rest, e)

  ours_one : (r : Recorder) (piece rest : List ℕ) (o : One (wrote r piece)) → ours_of r (piece ++ rest) ≡ o.body ∷ ours_of (fed_all fed r piece) rest
  ours_one r piece rest o =
      rw (written_append fed written r piece rest, fed_append fed r piece rest, append_assoc, o.is, append_assoc)
      (line_first o.body _ o.plain_body)

  -- ---- the two turns
  -- the recording's: nothing of their line is there
  pub record Ours (s : Standing) (a : List ℕ) (os : List (List ℕ)) : Type 0 where
    pub turn : s.judge.theirs ≡ false
    pub untold : s.judge.told ≡ false
    pub ten : Ten s.judge.recorder.state
    pub none : s.judge.n ≡ 0
    pub long : length s.held ≡ 1283
    pub are : os ≡ ours_of s.judge.recorder a

  -- our next line, or none
  pub data Said (s : Standing) (a : List ℕ) (os : List (List ℕ)) : Type 0 where
    nothing : s.judge.said ≡ 0 → os ≡ [] → Said s a os
    line : (o : One (take s.judge.said s.text)) → os ≡ o.body ∷ ours_of s.judge.recorder a → Said s a os

  -- the supplier's: some of their line is there
  pub record Theirs (s : Standing) (a : List ℕ) (os : List (List ℕ)) (begun : List ℕ) : Type 0 where
    pub turn : s.judge.theirs ≡ true
    pub untold : s.judge.told ≡ false
    pub ten : Ten s.judge.recorder.state
    pub keeps : Keeps begun (kept s.held s.judge.n)
    pub is_plain : plain begun ≡ true
    pub said : Said s a os

  told_none : (ks : List ℕ) (s : Standing) (a b : List ℕ) → s.judge.told ≡ true → spoken file ks s a b ≡ []
  unfolding spoken
  told_none [] s a b e = refl
  told_none (k ∷ ks) s a b e = rw e

  one_of : {t u : List ℕ} → t ≡ u → One u → One t
  one_of e o = record { body = o.body; is = e ∙ o.is; plain_body = o.plain_body; short = o.short }

  take_over : (t room : List ℕ) → take (length t) (over t room) ≡ t
  unfolding over
  take_over t room = take_at t _ (length t) refl

  no_lines : lines [] ≡ []
  unfolding lines pieces of_pieces
  no_lines = refl

  one_line : (o : List ℕ) → plain o ≡ true → lines (o ++ (10 ∷ [])) ≡ o ∷ []
  one_line o e = line_first o [] e ∙ ap (λ (l : List (List ℕ)). o ∷ l) no_lines

  -- the end of the recording
  end_heard : (j : Judge) → (ours_text file j [] ≡ ending j.recorder) × (hear_ours file j [] ≡ record { judge = record { recorder = closed j.recorder; number = j.number; said = length (ending j.recorder); n = j.n; theirs = true; told = j.told }; used = 0; n = 0 })
  unfolding ours_text hear_ours Reads.answer_text
  end_heard j = rw up_to_none (refl, refl)

  rest_none : (r : Recorder) → ours_of r [] ≡ lines (ending r)
  unfolding written_all fed_all
  rest_none r = refl

  after_end : (s : Standing) (os : List (List ℕ)) → Ours s [] os → Theirs (after_ours file s []) [] os []
  unfolding after_ours one_of
  after_end s os i =
      let e = end_heard s.judge in
      rw (e.0, e.1) (record {
        turn = refl;
        untold = i.untold;
        ten = i.ten;
        keeps = rw i.none (keeps_none s.held i.long);
        is_plain = refl;
        said = by (ending_one s.judge.recorder i.ten);
      })
    where
      by : (ending s.judge.recorder ≡ []) ⊎ One (ending s.judge.recorder) → Said (record { judge = record { recorder = closed s.judge.recorder; number = s.judge.number; said = length (ending s.judge.recorder); n = s.judge.n; theirs = true; told = s.judge.told }; text = over (ending s.judge.recorder) s.text; held = s.held }) [] os
      by (inl e) = nothing (ap (λ (l : List ℕ). length l) e) (i.are ∙ rest_none s.judge.recorder ∙ ap lines e ∙ no_lines)
      by (inr o) =
          line (one_of (take_over (ending s.judge.recorder) s.text) o)
          (i.are ∙ rest_none s.judge.recorder ∙ ap lines o.is ∙ one_line o.body o.plain_body ∙ ap (λ (l : List (List ℕ)). o.body ∷ l) (sym (rest_none (closed s.judge.recorder) ∙ ap lines (closed_ending s.judge.recorder) ∙ no_lines)))

  -- bytes of the recording
  module _ (j : Judge) (x : ℕ) (xs : List ℕ) where
    abbrev piece : List ℕ
    piece = take (up_to (x ∷ xs)) (x ∷ xs)

    piece_long : length piece ≡ up_to (x ∷ xs)
    piece_long = let l = length-take (up_to (x ∷ xs)) (x ∷ xs) in let u = up_to_le (x ∷ xs) in omega arith

    chunk_text : ours_text file j (x ∷ xs) ≡ wrote j.recorder piece
    unfolding ours_text
    chunk_text = Reads.answer_chunk fed written ending j.recorder piece (λ e. let l = piece_long in let u = up_to_some x xs in omega arith)

    chunk_heard : hear_ours file j (x ∷ xs) ≡ record { judge = record { recorder = fed_all fed j.recorder piece; number = j.number; said = length (wrote j.recorder piece); n = j.n; theirs = ltb 0 (length (wrote j.recorder piece)); told = j.told }; used = up_to (x ∷ xs); n = 0 }
    unfolding hear_ours
    chunk_heard = rw (chunk_text, ne_eqb (up_to (x ∷ xs)) 0 (λ e. let u = up_to_some x xs in omega arith))

  pub Next : Standing → List ℕ → List (List ℕ) → Type 0
  Next s a os = Ours s a os ⊎ Theirs s a os []

  after_chunk : (s : Standing) (x : ℕ) (xs rest : List ℕ) (os : List (List ℕ)) → Ours s ((x ∷ xs) ++ rest) os → Next (after_ours file s (x ∷ xs)) (drop (up_to (x ∷ xs)) (x ∷ xs) ++ rest) os
  unfolding after_ours Next one_of
  after_chunk s x xs rest os i =
      rw (chunk_heard s.judge x xs, chunk_text s.judge x xs) (by (piece_one (x ∷ xs) r i.ten))
    where
      r : Recorder
      r = s.judge.recorder

      p : List ℕ
      p = take (up_to (x ∷ xs)) (x ∷ xs)

      left : List ℕ
      left = drop (up_to (x ∷ xs)) (x ∷ xs) ++ rest

      split : (x ∷ xs) ++ rest ≡ p ++ left
      split = ap (λ (l : List ℕ). l ++ rest) (sym (take-append-drop (up_to (x ∷ xs)) (x ∷ xs))) ∙ append_assoc p (drop (up_to (x ∷ xs)) (x ∷ xs)) rest

      after : Standing
      after = record { judge = record { recorder = fed_all fed r p; number = s.judge.number; said = length (wrote r p); n = s.judge.n; theirs = ltb 0 (length (wrote r p)); told = s.judge.told }; text = over (wrote r p) s.text; held = s.held }

      by : (wrote r p ≡ []) ⊎ One (wrote r p) → Ours after left os ⊎ Theirs after left os []
      by (inl e) =
          inl (record {
            turn = rw e;
            untold = i.untold;
            ten = all_ten r p i.ten;
            none = i.none;
            long = i.long;
            are = i.are ∙ ap (ours_of r) split ∙ ours_none r p left e;
          })
      by (inr o) =
          inr (record {
            turn = lt-ltb 0 (length (wrote r p)) (let q = ap (λ (l : List ℕ). length l) o.is in let z = length-append o.body (10 ∷ []) in omega arith);
            untold = i.untold;
            ten = all_ten r p i.ten;
            keeps = rw i.none (keeps_none s.held i.long);
            is_plain = refl;
            said = line (one_of (take_over (wrote r p) s.text) o) (i.are ∙ ap (ours_of r) split ∙ ours_one r p left o);
          })

  -- ---- a line of theirs at its end
  abbrev verdict : ℕ → List (List ℕ) → List ℕ → List ℕ
  verdict n [] t = added n t
  verdict n (o ∷ os) t = cond (same o t) [] (difference n o t)

  says_some : (n : ℕ) (w : List ℕ) → eqb (length (says n w)) 0 ≡ false
  unfolding says head
  says_some n w = ne_eqb (length (108 ∷ 105 ∷ 110 ∷ 101 ∷ 32 ∷ (decimal n ++ (w ++ (10 ∷ []))))) 0 (λ e. omega arith)

  added_long : (n : ℕ) (t : List ℕ) → eqb (length (added n t)) 0 ≡ false
  unfolding added
  added_long n t = says_some n _

  difference_long : (n : ℕ) (o t : List ℕ) → eqb (length (difference n o t)) 0 ≡ false
  unfolding difference
  difference_long n o t = says_some n _

  end_told : (j : Judge) (text held a : List ℕ) (os : List (List ℕ)) (begun : List ℕ) → Keeps begun (kept held j.n) → Said (record { judge = j; text = text; held = held }) a os → end_text j text held ≡ verdict j.number os begun
  unfolding end_text round
  end_told j text held a os begun k (nothing e q) = rw (e, q) (added_told begun (kept held j.n) k j.number)
  end_told j text held a os begun k (line o q) =
      let l = length-append o.body (10 ∷ []) in
      let m = ap (λ (x : List ℕ). length x) o.is in
      let c : length (o.body ++ (10 ∷ [])) - 1 ≡ length o.body = omega arith in
      rw (q, o.is, ne_eqb (length (o.body ++ (10 ∷ []))) 0 (λ z. omega arith), c, take_at o.body (10 ∷ []) (length o.body) refl, same_told begun (kept held j.n) k o.body o.short, difference_told begun (kept held j.n) k j.number o.body)

  abbrev OursTold : List ℕ → Type 0
  OursTold ks = (s : Standing) (a b : List ℕ) (os : List (List ℕ)) → Ours s a os → length a + 3 * length b + 2 ≤ length ks → spoken file ks s a b ≡ judge s.judge.number os (lines b)

  abbrev TheirsTold : List ℕ → Type 0
  TheirsTold ks = (s : Standing) (a b : List ℕ) (os : List (List ℕ)) (begun : List ℕ) → Theirs s a os begun → length a + 3 * length b + 2 * min s.judge.n 1 + 1 ≤ length ks → spoken file ks s a b ≡ judge s.judge.number os (lines (begun ++ b))

  -- what is told at its end, and from there on
  line_told : (ks : List ℕ) → OursTold ks → (j : Judge) (used : ℕ) (text held a b : List ℕ) (os : List (List ℕ)) (begun : List ℕ) → Ten j.recorder.state → Keeps begun (kept held j.n) → Said (record { judge = j; text = text; held = held }) a os → length a + 3 * length b + 2 ≤ length ks → end_text j text held ++ spoken file ks (record { judge = (ended j used text held).judge; text = text; held = held }) a b ≡ judge j.number os (begun ∷ lines b)
  unfolding ended judge
  line_told ks then j used text held a b [] begun t k d m =
      rw (end_told j text held a [] begun k d, added_long j.number begun) (ap (λ (l : List ℕ). added j.number begun ++ l) (told_none ks _ a b refl) ∙ append-nil (added j.number begun))
  line_told ks then j used text held a b (o ∷ os) begun t k d m = by (same o begun) refl
    where
      rest : Said (record { judge = j; text = text; held = held }) a (o ∷ os) → os ≡ ours_of j.recorder a
      rest (nothing z q) = let l = ap (λ (x : List (List ℕ)). length x) q in absurd (omega arith)
      rest (line z q) = ap (λ (x : List (List ℕ)). drop 1 x) q

      e : end_text j text held ≡ cond (same o begun) [] (difference j.number o begun)
      e = end_told j text held a (o ∷ os) begun k d

      by : (q : Bool) → same o begun ≡ q → end_text j text held ++ spoken file ks (record { judge = cond (eqb (length (end_text j text held)) 0) (again j) (final j); text = text; held = held }) a b ≡ cond (same o begun) (judge (next j.number) os (lines b)) (difference j.number o begun)
      by true q = rw (e, q) (then _ a b os (record { turn = refl; untold = refl; ten = t; none = refl; long = k.long; are = rest d }) m)
      by false q = rw (e, q, difference_long j.number o begun) (ap (λ (l : List ℕ). difference j.number o begun ++ l) (told_none ks _ a b refl) ∙ append-nil (difference j.number o begun))

  -- ---- any turns
  none_long : (l : List ℕ) → length l ≡ 0 → l ≡ []
  none_long [] e = refl
  none_long (x ∷ xs) e = absurd (omega arith)

  plain_append : (a b : List ℕ) → plain a ≡ true → plain b ≡ true → plain (a ++ b) ≡ true
  plain_append [] b p q = q
  plain_append (x ∷ xs) b p q = rw (and_left (not (eqb x 10)) (plain xs) p) (plain_append xs b (and_right (not (eqb x 10)) (plain xs) p) q)

  open_line : (l : List ℕ) → plain l ≡ true → (length l ≡ 0 → ⊥) → lines l ≡ l ∷ []
  open_line [] p h = absurd (h refl)
  open_line (x ∷ xs) p h = line_last x xs p

  -- our line stays while theirs comes in
  said_more : (s : Standing) (n : ℕ) (held a : List ℕ) (os : List (List ℕ)) → Said s a os → Said (record { judge = more s.judge n; text = s.text; held = held }) a os
  said_more s n held a os (nothing e q) = nothing e q
  said_more s n held a os (line o q) = line o q

  kept_first : (j : Judge) (held chunk begun : List ℕ) → Keeps begun (kept held j.n) → Keeps (begun ++ (pieces chunk).first) (kept_with j held chunk)
  unfolding kept_with
  kept_first j held chunk begun k = rw (cut chunk).taken (keeps_all begun (kept held j.n) (pieces chunk).first k)

  -- the end of their lines, with no line begun
  last_told : (s : Standing) (a : List ℕ) (os : List (List ℕ)) (n : ℕ) → Said s a os → last n s.judge.said ≡ judge n os []
  unfolding last judge
  last_told s a os n (nothing e q) = rw (e, q)
  last_told s a os n (line o q) = rw (q, ne_eqb s.judge.said 0 (λ z. let m = ap (λ (x : List ℕ). length x) o.is in let l = length-append o.body (10 ∷ []) in let t = length-take s.judge.said s.text in omega arith))

  theirs_end : (ks : List ℕ) → OursTold ks → (s : Standing) (a : List ℕ) (os : List (List ℕ)) (begun : List ℕ) → Theirs s a os begun → length a + 2 * min s.judge.n 1 + 1 ≤ suc (length ks) → told_of s [] ++ spoken file ks (after_theirs s []) a [] ≡ judge s.judge.number os (lines begun)
  unfolding after_theirs hear_theirs theirs_held theirs_text
  theirs_end ks then s a os begun i m = by (eqb s.judge.n 0) refl
    where
      by : (t : Bool) → eqb s.judge.n 0 ≡ t → cond (eqb s.judge.n 0) (last s.judge.number s.judge.said) (end_text s.judge s.text s.held) ++ spoken file ks (record { judge = (cond (eqb s.judge.n 0) (record { judge = final s.judge; used = 0; n = length (last s.judge.number s.judge.said) }) (ended s.judge 0 s.text s.held)).judge; text = s.text; held = s.held }) a [] ≡ judge s.judge.number os (lines begun)
      by true e =
          let c = i.keeps.count in
          let z = eqb-true s.judge.n 0 e in
          let o : begun ≡ [] = none_long begun (omega arith) in
          rw (e, o, no_lines) (ap (λ (l : List ℕ). last s.judge.number s.judge.said ++ l) (told_none ks _ a [] refl) ∙ append-nil _ ∙ last_told s a os s.judge.number i.said)
      by false e =
          let z = eqb-false s.judge.n 0 e in
          rw (e, open_line begun i.is_plain (λ q. z (i.keeps.count ∙ rw q))) (line_told ks then s.judge 0 s.text s.held a [] os begun i.ten i.keeps i.said (omega arith) ∙ rw no_lines)

  theirs_chunk : (ks : List ℕ) → OursTold ks → TheirsTold ks → (s : Standing) (a : List ℕ) (x : ℕ) (xs rest : List ℕ) (os : List (List ℕ)) (begun : List ℕ) → Theirs s a os begun → length a + 3 * length ((x ∷ xs) ++ rest) ≤ length ks → told_of s (x ∷ xs) ++ spoken file ks (after_theirs s (x ∷ xs)) a (drop (hear_theirs s.judge s.text s.held (x ∷ xs)).used (x ∷ xs) ++ rest) ≡ judge s.judge.number os (lines (begun ++ ((x ∷ xs) ++ rest)))
  unfolding after_theirs hear_theirs theirs_held theirs_text ended
  theirs_chunk ks ours theirs s a x xs rest os begun i m = rw (ne_eqb (length (x ∷ xs)) 0 (λ e. omega arith)) (by (eqb (length (pieces (x ∷ xs)).first) (length (x ∷ xs))) refl)
    where
      c : Cut (x ∷ xs)
      c = cut (x ∷ xs)

      f : List ℕ
      f = (pieces (x ∷ xs)).first

      k : Kept
      k = kept_with s.judge s.held (x ∷ xs)

      with_first : Keeps (begun ++ f) k
      with_first = kept_first s.judge s.held (x ∷ xs) begun i.keeps

      by : (t : Bool) → eqb (length f) (length (x ∷ xs)) ≡ t → cond (eqb (length f) (length (x ∷ xs))) [] (end_text (more s.judge k.n) s.text k.held) ++ spoken file ks (record { judge = (cond (eqb (length f) (length (x ∷ xs))) (record { judge = more s.judge k.n; used = length f; n = 0 }) (ended (more s.judge k.n) (length f + 1) s.text k.held)).judge; text = s.text; held = k.held }) a (drop (cond (eqb (length f) (length (x ∷ xs))) (record { judge = more s.judge k.n; used = length f; n = 0 }) (ended (more s.judge k.n) (length f + 1) s.text k.held)).used (x ∷ xs) ++ rest) ≡ judge s.judge.number os (lines (begun ++ ((x ∷ xs) ++ rest)))
      by true e =
          let l = eqb-true (length f) (length (x ∷ xs)) e in
          let q : f ≡ x ∷ xs = sym c.taken ∙ take_all (length f) (x ∷ xs) (omega arith) in
          let d : drop (length f) (x ∷ xs) ≡ [] = drop_of_length-le (x ∷ xs) {i = length f} (omega arith) in
          let n : length ((x ∷ xs) ++ rest) ≡ length (x ∷ xs) + length rest = length-append (x ∷ xs) rest in
          rw (e, d) (theirs _ a rest os (begun ++ f) (record { turn = refl; untold = refl; ten = i.ten; keeps = with_first; is_plain = plain_append begun f i.is_plain c.plain_first; said = said_more s k.n k.held a os i.said }) (omega arith) ∙ ap (λ (y : List ℕ). judge s.judge.number os (lines y)) (append_assoc begun f rest ∙ ap (λ (y : List ℕ). begun ++ (y ++ rest)) q))
      by false e =
          let z = eqb-false (length f) (length (x ∷ xs)) e in
          let w = c.within in
          let h : length f < length (x ∷ xs) = omega arith in
          let g = length-drop (length f + 1) (x ∷ xs) in
          let n = length-append (x ∷ xs) rest in
          let v = length-append (drop (length f + 1) (x ∷ xs)) rest in
          let q : x ∷ xs ≡ f ++ (10 ∷ drop (length f + 1) (x ∷ xs)) = sym (take-append-drop (length f) (x ∷ xs)) ∙ rw (c.taken, c.split h, add-one) in
          let u : begun ++ ((x ∷ xs) ++ rest) ≡ (begun ++ f) ++ (10 ∷ (drop (length f + 1) (x ∷ xs) ++ rest)) = ap (λ (y : List ℕ). begun ++ (y ++ rest)) q ∙ rw (append_assoc, append_assoc) in
          rw (e) (line_told ks ours (more s.judge k.n) (length f + 1) s.text k.held a (drop (length f + 1) (x ∷ xs) ++ rest) os (begun ++ f) i.ten with_first (said_more s k.n k.held a os i.said) (omega arith) ∙ ap (judge s.judge.number os) (sym (ap lines u ∙ line_first (begun ++ f) _ (plain_append begun f i.is_plain c.plain_first))))

  -- a chunk is what was given of what is left
  given : (k u : ℕ) (x : ℕ) (xs : List ℕ) → u ≤ length (take (suc k) (x ∷ xs)) → drop u (x ∷ xs) ≡ drop u (take (suc k) (x ∷ xs)) ++ drop (suc k) (x ∷ xs)
  given k u x xs h = ap (λ (l : List ℕ). drop u l) (sym (take-append-drop (suc k) (x ∷ xs))) ∙ drop-append-le u (take (suc k) (x ∷ xs)) (drop (suc k) (x ∷ xs)) h

  used_le : (j : Judge) (text held : List ℕ) (x : ℕ) (xs : List ℕ) → (hear_theirs j text held (x ∷ xs)).used ≤ length (x ∷ xs)
  unfolding hear_theirs ended
  used_le j text held x xs = rw (ne_eqb (length (x ∷ xs)) 0 (λ e. omega arith)) (by (eqb (length (pieces (x ∷ xs)).first) (length (x ∷ xs))) refl)
    where
      by : (t : Bool) → eqb (length (pieces (x ∷ xs)).first) (length (x ∷ xs)) ≡ t → (cond (eqb (length (pieces (x ∷ xs)).first) (length (x ∷ xs))) (record { judge = more j (kept_with j held (x ∷ xs)).n; used = length (pieces (x ∷ xs)).first; n = 0 }) (ended (more j (kept_with j held (x ∷ xs)).n) (length (pieces (x ∷ xs)).first + 1) text (kept_with j held (x ∷ xs)).held)).used ≤ length (x ∷ xs)
      by true e = let l = eqb-true (length (pieces (x ∷ xs)).first) (length (x ∷ xs)) e in rw e (omega arith)
      by false e = let z = eqb-false (length (pieces (x ∷ xs)).first) (length (x ∷ xs)) e in let w = (cut (x ∷ xs)).within in rw e (omega arith)

  end_number : (s : Standing) → (after_ours file s []).judge.number ≡ s.judge.number
  unfolding after_ours hear_ours
  end_number s = refl

  chunk_number : (s : Standing) (x : ℕ) (xs : List ℕ) → (after_ours file s (x ∷ xs)).judge.number ≡ s.judge.number
  unfolding after_ours hear_ours
  chunk_number s x xs = refl

  zero_measure : (s : Standing) (b : List ℕ) {os : List (List ℕ)} {n : ℕ} → Ours s [] os → 0 + 3 * length b + 2 ≤ suc n → 0 + 3 * length b + 2 * min (after_ours file s []).judge.n 1 + 1 ≤ n
  unfolding after_ours hear_ours
  zero_measure s b i m = rw i.none (omega arith)

  chunk_measure : (s : Standing) (x : ℕ) (xs left b : List ℕ) {n : ℕ} → s.judge.n ≡ 0 → length left + 3 * length b + 1 ≤ n → length left + 3 * length b + 2 * min (after_ours file s (x ∷ xs)).judge.n 1 + 1 ≤ n
  unfolding after_ours hear_ours
  chunk_measure s x xs left b e m = rw e (omega arith)

  third : (t u : Bool) (x y z : List ℕ) → t ≡ false → u ≡ false → cond t x (cond u y z) ≡ z
  third false false x y z p q = refl
  third false true x y z p q = absurd (true≢false q)
  third true u x y z p q = absurd (true≢false p)

  second : (t u : Bool) (x y z : List ℕ) → t ≡ false → u ≡ true → cond t x (cond u y z) ≡ y
  second false true x y z p q = refl
  second false false x y z p q = absurd (true≢false (sym q))
  second true u x y z p q = absurd (true≢false p)

  module _ (k : ℕ) (ks : List ℕ) (s : Standing) (a b : List ℕ) (untold : s.judge.told ≡ false) where
    spoken_ours : s.judge.theirs ≡ false → spoken file (k ∷ ks) s a b ≡ spoken file ks (after_ours file s (take (suc k) a)) (drop (hear_ours file s.judge (take (suc k) a)).used a) b
    unfolding spoken
    spoken_ours e = third s.judge.told s.judge.theirs _ _ _ untold e

    spoken_theirs : s.judge.theirs ≡ true → spoken file (k ∷ ks) s a b ≡ told_of s (take (suc k) b) ++ spoken file ks (after_theirs s (take (suc k) b)) a (drop (hear_theirs s.judge s.text s.held (take (suc k) b)).used b)
    unfolding spoken
    spoken_theirs e = second s.judge.told s.judge.theirs _ _ _ untold e

  module _ (k : ℕ) (ks : List ℕ) (ours : OursTold ks) (theirs : TheirsTold ks) where
    ours_end : (s : Standing) (b : List ℕ) (os : List (List ℕ)) → Ours s [] os → 0 + 3 * length b + 2 ≤ suc (length ks) → spoken file (k ∷ ks) s [] b ≡ judge s.judge.number os (lines b)
    ours_end s b os i m =
        spoken_ours k ks s [] b i.untold i.turn
        ∙ ap (λ (l : List ℕ). spoken file ks (after_ours file s []) l b) (drop-nil (hear_ours file s.judge []).used)
        ∙ theirs (after_ours file s []) [] b os [] (after_end s os i) (zero_measure s b i m)
        ∙ ap (λ (n : ℕ). judge n os (lines b)) (end_number s)

    module _ (s : Standing) (x : ℕ) (xs b : List ℕ) (os : List (List ℕ)) (i : Ours s (x ∷ xs) os) (m : length (x ∷ xs) + 3 * length b + 2 ≤ length (k ∷ ks)) where
      abbrev left : List ℕ
      left = drop (up_to (x ∷ take k xs)) (x ∷ take k xs) ++ drop k xs

      shorter : length left < length (x ∷ xs)
      shorter =
          let u = up_to_some x (take k xs) in
          let v = up_to_le (x ∷ take k xs) in
          let d = length-drop (up_to (x ∷ take k xs)) (x ∷ take k xs) in
          let p = length-append (drop (up_to (x ∷ take k xs)) (x ∷ take k xs)) (drop k xs) in
          let t = length-take k xs in
          let g = length-drop k xs in
          omega arith

      ours_then : Next (after_ours file s (x ∷ take k xs)) left os → spoken file ks (after_ours file s (x ∷ take k xs)) left b ≡ judge s.judge.number os (lines b)
      unfolding Next
      ours_then (inl o) = let w = shorter in ours (after_ours file s (x ∷ take k xs)) left b os o (omega arith) ∙ rw (chunk_number s x (take k xs))
      ours_then (inr t) = let w = shorter in theirs (after_ours file s (x ∷ take k xs)) left b os [] t (chunk_measure s x (take k xs) left b i.none (omega arith)) ∙ rw (chunk_number s x (take k xs))

      ours_chunk : spoken file (k ∷ ks) s (x ∷ xs) b ≡ judge s.judge.number os (lines b)
      ours_chunk =
          spoken_ours k ks s (x ∷ xs) b i.untold i.turn
          ∙ ap (λ (l : List ℕ). spoken file ks (after_ours file s (x ∷ take k xs)) l b) (ap (λ (h : Heard). drop h.used (x ∷ xs)) (chunk_heard s.judge x (take k xs)) ∙ given k (up_to (x ∷ take k xs)) x xs (up_to_le (x ∷ take k xs)))
          ∙ ours_then (after_chunk s x (take k xs) (drop k xs) os (rw (take-append-drop k xs) i))

    ours_more : OursTold (k ∷ ks)
    ours_more s [] b os i m = ours_end s b os i m
    ours_more s (x ∷ xs) b os i m = ours_chunk s x xs b os i m

    theirs_more : TheirsTold (k ∷ ks)
    theirs_more s a [] os begun i m =
        spoken_theirs k ks s a [] i.untold i.turn
        ∙ ap (λ (l : List ℕ). told_of s [] ++ spoken file ks (after_theirs s []) a l) (drop-nil (hear_theirs s.judge s.text s.held []).used)
        ∙ theirs_end ks ours s a os begun i (omega arith)
        ∙ ap (λ (l : List ℕ). judge s.judge.number os (lines l)) (sym (append-nil begun))
    theirs_more s a (x ∷ xs) os begun i m =
        spoken_theirs k ks s a (x ∷ xs) i.untold i.turn
        ∙ ap (λ (l : List ℕ). told_of s (x ∷ take k xs) ++ spoken file ks (after_theirs s (x ∷ take k xs)) a l) (given k (hear_theirs s.judge s.text s.held (x ∷ take k xs)).used x xs (used_le s.judge s.text s.held x (take k xs)))
        ∙ theirs_chunk ks ours theirs s a x (take k xs) (drop k xs) os begun i (let t = length-append (x ∷ take k xs) (drop k xs) in let p = length-take k xs in let g = length-drop k xs in omega arith)
        ∙ ap (λ (l : List ℕ). judge s.judge.number os (lines (begun ++ (x ∷ l)))) (take-append-drop k xs)

  any_turns : (ks : List ℕ) → OursTold ks × TheirsTold ks
  any_turns [] = (λ s a b os i m. absurd (omega arith), λ s a b os begun i m. absurd (omega arith))
  any_turns (k ∷ ks) = let t = any_turns ks in (ours_more k ks t.0 t.1, theirs_more k ks t.0 t.1)

-- what a recorder writes of a whole recording is its transcript
one_read : (l : List ℕ) → List Read
one_read [] = []
one_read (x ∷ xs) = record { head = x; tail = xs } ∷ []

one_input : (l : List ℕ) → input_of (one_read l) ≡ l
unfolding input_of one_read
one_input [] = refl
one_input (x ∷ xs) = append-nil (x ∷ xs)

told_whole : (file l : List ℕ) → wrote file (Begin.begin (File.words file) (File.bytes file)) l ++ ending file (fed_all (fed file) (Begin.begin (File.words file) (File.bytes file)) l) ≡ transcript (File.words file) (File.bytes file) l
told_whole file l =
    ap (λ (x : List ℕ). wrote file (Begin.begin (File.words file) (File.bytes file)) x ++ ending file (fed_all (fed file) (Begin.begin (File.words file) (File.bytes file)) x)) (sym (one_input l))
    ∙ sym (answers_joined (fed file) (written file) (ending file) (Begin.begin (File.words file) (File.bytes file)) (one_read l))
    ∙ transcript_told (File.words file) (File.bytes file) (one_read l)
    ∙ ap (transcript (File.words file) (File.bytes file)) (one_input l)

-- ---- THE PROGRAM, as its calls promise it: the start's text and, where that is no refusal, what is told of any turns, of which there are enough
module _ (file recording supplier : List ℕ) (sizes text held : List ℕ) where
  unfoldable pub compared : List ℕ
  compared = Begin.start_text file ++ cond (eqb (Begin.started file).number 0) (spoken file sizes (record { judge = begin (Begin.started file).recorder; text = text; held = held }) recording supplier) []

  module _ (long : length held ≡ 1283) (enough : length recording + 3 * length supplier + 2 ≤ length sizes) where
    began : Recorder
    began = Begin.begin (File.words file) (File.bytes file)

    opening : Ours file (record { judge = begin (Begin.begin (File.words file) (File.bytes file)); text = text; held = held }) recording (lines (transcript (File.words file) (File.bytes file) recording))
    unfolding begin Begin.begin
    opening = record { turn = refl; untold = refl; ten = cold_ten (File.words file) (File.bytes file); none = refl; long = long; are = ap lines (sym (told_whole file recording)) }

    by_number : (n : ℕ) → Begin.start_text_by n file ++ cond (eqb (Begin.started_by n file).number 0) (spoken file sizes (record { judge = begin (Begin.started_by n file).recorder; text = text; held = held }) recording supplier) [] ≡ output n file recording supplier
    unfolding Begin.start_text_by Begin.started_by output begin
    by_number zero = (any_turns file sizes).0 _ recording supplier _ opening enough
    by_number (suc n) = rw (ne_eqb (suc n) 0 (λ e. omega arith)) (append-nil (tables_text (suc n) file))

    pub program_told : compared ≡ program file recording supplier
    unfolding compared program Begin.start_text Begin.started
    program_told = by_number (File.check_file file)
