-- The recorder takes its input a byte at a time and writes a text at each line's end. What its calls promise, joined, is the program's text.
use Prim.Native.Nat.{ℕ, suc, ◌+◌, ◌*◌, ◌<◌, ◌≤◌, min}
use Rattle.std.specs.Prelude.{◌≡◌, Bool, ◌&&◌, cond, eqb, ℤ, length}
use Rattle.std.proofs.Math.Path.{refl, ap}
use Rattle.std.proofs.Common.{arith}
use mathlib.Core.List.{List, [], ◌∷◌, ◌++◌, append-nil}
use Rattle.std.proofs.Math.Bool.{true, false}
use borrow.Author.Tests.{eq-eqb, ne_eqb}
use Rattle.stream.specs.Held.{zeros, push_text_lem, push_count_lem, push_one, shown_same}
use Rattle.stream.specs.Machine.{fed_all, written_all, Streamed, streamed_most}
use Rattle.stream.specs.Reads.{Read, input_of, answers, Took}
use Rattle.stream.specs.Reads as Reads
use Rattle.stream.specs.Told.{texts, last, Machine}
use Rattle.state.specs.declared.State.{State}
use Rattle.state.specs.State.{reset, cold_start}
use Rattle.hex_lines.specs.declared.Line.{Line}
use Rattle.hex_lines.specs.Held.{kept, push, held_line}
use Rattle.heard.specs.declared.Recorder.{Recorder}
use Rattle.heard.specs.declared.Said.{Said}
use Rattle.recording.specs.declared.Fed.{Fed}
use Rattle.hex_lines.specs.Text.{is_frame, is_only}
use Rattle.table_file.specs.File as File
use Rattle.heard.specs.Recording.{event, line_step, line_text, is_start, opening, transcript_of}
use Rattle.heard.specs.Start.{start_text, started}

-- ---- where a recording stands
-- between two lines: whether its first is still to come, and the state
pub record Place : Type 0 where
  pub first : Bool
  pub state : State

abbrev pub standing : Bool → State → Line → Recorder
standing first state line = record { first = first; state = state; line = line }

-- the room that a chunk of n bytes asks: 32 for each of its own and of those that are held, and one text more. A frame's text, 1,283 bytes, is paid for by
-- the 41 of its line, and a refusal's 10 by one
abbrev pub room_for : ℕ → ℕ
room_for n = 32 * (n + 82)

abbrev pub credit : Recorder → ℕ
credit r = 32 * min r.line.n 41

module _ (words : List ℤ) (bytes : List ℕ) where
  -- the end of a line: a first `+` gives reset and no text, any other line is a call
  unfoldable pub end_step : Bool → State → List ℕ → State
  end_step first s line = cond (first && is_start line) (reset words bytes).state (line_step words bytes s line)

  unfoldable pub end_text : Bool → State → List ℕ → List ℕ
  end_text first s line = cond (first && is_start line) [] (line_text words bytes s line)

  unfoldable pub said : Bool → State → Line → Said
  said first s l = record { n = length (end_text first s (held_line l)); state = end_step first s (held_line l) }

  -- a byte more: a newline ends the line
  unfoldable pub fed : Recorder → ℕ → Recorder
  fed r b =
      cond (eqb b 10) (standing false (end_step r.first r.state (held_line r.line)) (kept []))
      (standing r.first r.state (push r.line b))

  -- what is written where the input ends: a line that is open is a line, unless nothing stands in it
  unfoldable pub ending : Recorder → List ℕ
  ending r = cond (eqb r.line.n 0) [] (end_text r.first r.state (held_line r.line))

  -- what is written at a byte: the text of the line that it ends
  unfoldable pub written : Recorder → ℕ → List ℕ
  written r b = cond (eqb b 10) (end_text r.first r.state (held_line r.line)) []

  -- a chunk: where it leaves the recorder, and how long its text is
  unfoldable pub fed_chunk : Recorder → List ℕ → Fed
  fed_chunk r chunk = record { recorder = fed_all fed r chunk; n = length (written_all fed written r chunk) }

  -- ---- it is the machine of the lines
  unfoldable pub at : Place → List ℕ → Recorder
  at p line = standing p.first p.state (kept line)

  pub place_step : Place → List ℕ → Place
  place_step p line = record { first = false; state = end_step p.first p.state line }

  pub place_text : Place → List ℕ → List ℕ
  place_text p line = end_text p.first p.state line

  module _ (p : Place) (line : List ℕ) where
    step_long : 40 < length line → place_step p line ≡ place_step p (zeros 41)
    unfolding place_step end_step is_start is_only line_step event is_frame
    step_long h = rw (ne_eqb (length line) 1 (λ e. omega arith), ne_eqb (length line) 40 (λ e. omega arith))

    text_long : 40 < length line → place_text p line ≡ place_text p (zeros 41)
    unfolding place_text end_text is_start is_only line_text event is_frame
    text_long h = rw (ne_eqb (length line) 1 (λ e. omega arith), ne_eqb (length line) 40 (λ e. omega arith))

    step_held : place_step p (held_line (kept line)) ≡ place_step p line
    unfolding held_line kept
    step_held = shown_same 40 line (place_step p) step_long

    text_held : place_text p (held_line (kept line)) ≡ place_text p line
    unfolding held_line kept
    text_held = shown_same 40 line (place_text p) text_long

  -- nothing more is written at the end
  unfoldable pub nothing : Place → List ℕ
  nothing p = []

  ends : (p : Place) (line : List ℕ) → ending (at p line) ≡ last place_step place_text nothing p line
  unfolding at ending place_text kept last nothing
  ends p [] = refl
  ends p (b ∷ bs) = rw (ne_eqb (min (suc (length bs)) 41) 0 (λ e. omega arith), append-nil) (text_held p (b ∷ bs))

  pub machine : Machine place_step place_text (last place_step place_text nothing) fed written ending at
  unfolding at fed written place_step place_text push kept
  machine = record {
    newline = λ p line. ap (λ (q : Place). standing false q.state (kept [])) (step_held p line);
    newline_text = λ p line. text_held p line;
    other = λ p line b h. rw (ne_eqb b 10 h, push_text_lem 40 line b, push_count_lem 40 line b);
    other_text = λ p line b h. rw (ne_eqb b 10 h);
    end_text_lem = ends;
  }

  -- behind the first line a place's answers are its state's; before it they are what the opening leads to
  going : (s : State) (ls : List (List ℕ)) → texts place_step place_text (record { first = false; state = s }) ls ≡ texts (line_step words bytes) (line_text words bytes) s ls
  unfolding texts place_step place_text end_step end_text
  going s [] = refl
  going s (l ∷ ls) = ap (λ (t : List ℕ). line_text words bytes s l ++ t) (going (line_step words bytes s l) ls)

  pub begun : (ls : List (List ℕ)) → texts place_step place_text (record { first = true; state = (cold_start words bytes).state }) ls ≡ transcript_of words bytes (opening words bytes ls)
  unfolding texts place_step place_text end_step end_text opening transcript_of
  begun [] = refl
  begun (l ∷ ls) = by (is_start l) refl
    where
      by : (start : Bool) → is_start l ≡ start → texts place_step place_text (record { first = true; state = (cold_start words bytes).state }) (l ∷ ls) ≡ transcript_of words bytes (opening words bytes (l ∷ ls))
      by true e = rw e (going (reset words bytes).state ls)
      by false e = rw e (ap (λ (t : List ℕ). line_text words bytes (cold_start words bytes).state l ++ t) (going (line_step words bytes (cold_start words bytes).state l) ls))

  -- ---- the loop over a chunk, in a room that is large enough
  -- a line's text has room behind what is there
  pub turn_fits : {r₀ : Recorder} {chunk room₀ : List ℕ} {r : Recorder} {n : ℕ} {room : List ℕ} {i : ℕ} → Streamed fed written credit 32 r₀ chunk room₀ r n room i → room_for (length chunk) ≤ length room₀ → (n + 1283 ≤ length room) × (length room ≡ length room₀)
  turn_fits {r₀} {chunk} {room₀} {r} {n} {room} {i} s h =
      let m = streamed_most fed written credit 32 s (omega arith) in
      (omega arith, m.1)

  -- a turn of it, at a newline and at another byte
  pub fed_newline : (r : Recorder) {b : ℕ} → b ≡ 10 → (fed r b ≡ standing false (end_step r.first r.state (held_line r.line)) (kept [])) × (written r b ≡ end_text r.first r.state (held_line r.line))
  unfolding fed written
  fed_newline r {b} e = rw (eq-eqb b 10 e) (refl, refl)

  pub fed_other : (r : Recorder) {b : ℕ} → (b ≡ 10 → ⊥) → (fed r b ≡ standing r.first r.state (push r.line b)) × (written r b ≡ [])
  unfolding fed written
  fed_other r {b} h = rw (ne_eqb b 10 h) (refl, refl)

-- what a turn pays
pub newline_paid : (l : Line) (n k : ℕ) → k ≤ 32 * min l.n 41 + 32 → n + k + 32 * min (kept []).n 41 ≤ n + 32 * min l.n 41 + 32
unfolding kept
newline_paid l n k h = omega arith

pub other_paid : (l : Line) (b : ℕ) → 32 * min (push l b).n 41 ≤ 32 * min l.n 41 + 32
unfolding push
other_paid l b = let p = push_one 40 l.n in omega arith

-- ---- the calls of the program, over the table file's bytes
module _ (file : List ℕ) where
  abbrev pub fed_by : Recorder → ℕ → Recorder
  fed_by = fed (File.words file) (File.bytes file)

  abbrev pub written_by : Recorder → ℕ → List ℕ
  written_by = written (File.words file) (File.bytes file)

  abbrev pub ending_by : Recorder → List ℕ
  ending_by = ending (File.words file) (File.bytes file)

  -- what a read gives, nothing read being the end of the input
  abbrev pub answered_text : Recorder → List ℕ → List ℕ
  answered_text r chunk = Reads.answer_text fed_by written_by ending_by r chunk

  unfoldable pub answered : Recorder → List ℕ → Fed
  answered r chunk = record { recorder = fed_all fed_by r chunk; n = length (answered_text r chunk) }

  -- a turn of the program
  abbrev pub TookIn : Recorder → Recorder → ℕ → Bool → Bool → Type 0
  TookIn r next sent more failed = Took fed_by written_by ending_by r next sent more failed

  -- THE PROGRAM, as its calls promise it: the start's text and, where that is no refusal, those of any reads and of one that gives nothing
  unfoldable pub spoken : List Read → List ℕ
  spoken reads = start_text file ++ cond (eqb (started file).number 0) (answers fed_by written_by ending_by (started file).recorder reads) []
