-- The recorder takes its input a byte at a time and writes a text at each line's end. What its calls promise, joined, is the program's text.
use Prim.Native.Nat.{ℕ, zero, suc, ◌+◌, ◌*◌, ◌<◌, ◌≤◌, min}
use Rattle.std.specs.Prelude.{◌≡◌, Bool, cond, eqb, ℤ, length}
use Rattle.std.proofs.Math.Path.{refl}
use Rattle.std.proofs.Common.{◌∙◌, arith, eq-eqb, ne_eqb}
use mathlib.Core.List.{List, [], ◌∷◌, ◌++◌, append-nil}
use Rattle.stream.specs.Held.{zeros, push_text_lem, push_count_lem, push_one, shown_same}
use Rattle.stream.specs.Machine.{fed_all, written_all, Streamed, streamed_most}
use Rattle.stream.specs.Reads.{Read, input_of, answers, Took}
use Rattle.stream.specs.Reads as Reads
use Rattle.stream.specs.Told.{told, last, Machine, reads_told}
use Rattle.state.specs.declared.State.{State}
use Rattle.hex_lines.specs.declared.Line.{Line}
use Rattle.hex_lines.specs.Text.{is_frame}
use Rattle.hex_lines.specs.Held as Hex
use Rattle.table_file.specs.File as File
use Rattle.heard.specs.declared.Said.{Said}
use Rattle.heard.specs.Recording.{event, line_step, line_text, tables_text}
use Rattle.heard.specs.Start as Start
use Rattle.channel_lines.specs.declared.Pair.{Pair}
use Rattle.channel_lines.specs.declared.Held.{Held}
use Rattle.channel_lines.specs.declared.Recorder.{Recorder}
use Rattle.channel_lines.specs.declared.Ended.{Ended}
use Rattle.channel_lines.specs.declared.Fed.{Fed}
use Rattle.channel_lines.specs.declared.Started.{Started}
use Rattle.channel_lines.specs.declared.Whose.{Whose}
use Rattle.channel_lines.specs.declared.Whose.TheVariants.{A, B, Neither}
use Rattle.channel_lines.specs.Channels.{begins, whose, lettered, step_by, text_by, step, text, cold, transcript, output, program}

-- ---- what is held of a line: its first two bytes and what is kept of the rest, so that a line of any length still says whose it is
unfoldable pub kept : List ℕ → Held
kept [] = record { first = 0; second = 0; n = 0; rest = Hex.kept [] }
kept (x ∷ []) = record { first = x; second = 0; n = 1; rest = Hex.kept [] }
kept (x ∷ y ∷ rest) = record { first = x; second = y; n = 2; rest = Hex.kept rest }

unfoldable pub push_by : ℕ → Held → ℕ → Held
push_by zero l b = record { first = b; second = l.second; n = 1; rest = l.rest }
push_by (suc zero) l b = record { first = l.first; second = b; n = 2; rest = l.rest }
push_by (suc (suc k)) l b = record { first = l.first; second = l.second; n = suc (suc k); rest = Hex.push l.rest b }

unfoldable pub push : Held → ℕ → Held
push l b = push_by l.n l b

-- the line that it tells
unfoldable pub held_by : ℕ → Held → List ℕ
held_by zero l = []
held_by (suc zero) l = l.first ∷ []
held_by (suc (suc k)) l = l.first ∷ l.second ∷ Hex.held_line l.rest

unfoldable pub held_line : Held → List ℕ
held_line l = held_by l.n l

-- ---- where a recording stands
abbrev pub standing : Pair → Held → Recorder
standing channels line = record { channels = channels; line = line }

-- what bytes that are held are worth: the rest's, and all of them
unfoldable pub worth : Line → ℕ
worth l = 32 * min l.n 41

unfoldable pub held : Held → ℕ
held l = 32 * min l.n 2 + worth l.rest

held_most : (l : Held) → held l ≤ 1376
unfolding held worth
held_most l = omega arith

-- the room that a chunk of n bytes asks: 32 for each of its own and of those that are held, and one text more. A frame's text, 1,285 bytes, is paid for by
-- the 43 of its line, and a refusal's 12 by one
abbrev pub room_for : ℕ → ℕ
room_for n = 32 * (n + 84)

abbrev pub credit : Recorder → ℕ
credit r = held r.line

-- a line that is too long for a frame is held as any other such
event_long : (line : List ℕ) → 40 < length line → event line ≡ event (zeros 41)
unfolding event is_frame
event_long line h = rw (ne_eqb (length line) 40 (λ e. omega arith))

event_held : (line : List ℕ) → event (Hex.held_line (Hex.kept line)) ≡ event line
unfolding Hex.held_line Hex.kept
event_held line = shown_same 40 line event (event_long line)

module _ (words : List ℤ) (bytes : List ℕ) where
  -- a channel's call: how long its text is with its letter, and the state that it returns
  unfoldable pub called : ℕ → State → List ℕ → Said
  called letter s line = record { n = length (lettered letter (line_text words bytes s line)); state = line_step words bytes s line }

  unfoldable pub ended : Pair → Held → Ended
  ended p l = record { n = length (text words bytes p (held_line l)); channels = step words bytes p (held_line l) }

  -- a byte more: a newline ends the line
  unfoldable pub fed : Recorder → ℕ → Recorder
  fed r b =
      cond (eqb b 10) (standing (step words bytes r.channels (held_line r.line)) (kept []))
      (standing r.channels (push r.line b))

  -- what is written where the input ends: a line that is open is a line, unless nothing stands in it
  unfoldable pub ending : Recorder → List ℕ
  ending r = cond (eqb r.line.n 0) [] (text words bytes r.channels (held_line r.line))

  -- what is written at a byte: the text of the line that it ends
  unfoldable pub written : Recorder → ℕ → List ℕ
  written r b = cond (eqb b 10) (text words bytes r.channels (held_line r.line)) []

  -- a chunk: where it leaves the recorder, and how long its text is
  unfoldable pub fed_chunk : Recorder → List ℕ → Fed
  fed_chunk r chunk = record { recorder = fed_all fed r chunk; n = length (written_all fed written r chunk) }

  -- ---- it is the machine of the lines
  at : Pair → List ℕ → Recorder
  at p line = standing p (kept line)

  by_rest : (w : Whose) (p : Pair) (line : List ℕ) → (step_by words bytes w p (Hex.held_line (Hex.kept line)) ≡ step_by words bytes w p line) × (text_by words bytes w p (Hex.held_line (Hex.kept line)) ≡ text_by words bytes w p line)
  unfolding step_by text_by line_step line_text
  by_rest A p line = rw (event_held line) (refl, refl)
  by_rest B p line = rw (event_held line) (refl, refl)
  by_rest Neither p line = (refl, refl)

  as_held : (p : Pair) (line : List ℕ) → (step words bytes p (held_line (kept line)) ≡ step words bytes p line) × (text words bytes p (held_line (kept line)) ≡ text words bytes p line)
  unfolding step text held_line held_by kept whose begins
  as_held p [] = (refl, refl)
  as_held p (x ∷ []) = (refl, refl)
  as_held p (x ∷ y ∷ rest) = by_rest (whose (x ∷ y ∷ rest)) p rest

  -- nothing more is written at the end
  nothing : Pair → List ℕ
  nothing p = []

  ends : (p : Pair) (line : List ℕ) → ending (at p line) ≡ last (step words bytes) (text words bytes) nothing p line
  unfolding at ending kept last nothing
  ends p [] = refl
  ends p (x ∷ []) = rw append-nil (as_held p (x ∷ [])).1
  ends p (x ∷ y ∷ rest) = rw append-nil (as_held p (x ∷ y ∷ rest)).1

  pushed : (line : List ℕ) (b : ℕ) → push (kept line) b ≡ kept (line ++ (b ∷ []))
  unfolding push push_by kept Hex.push Hex.kept
  pushed [] b = refl
  pushed (x ∷ []) b = refl
  pushed (x ∷ y ∷ rest) b = rw (push_text_lem 40 rest b, push_count_lem 40 rest b)

  machine : Machine (step words bytes) (text words bytes) (last (step words bytes) (text words bytes) nothing) fed written ending at
  unfolding at fed written
  machine = record {
    newline = λ p line. rw (as_held p line).0;
    newline_text = λ p line. (as_held p line).1;
    other = λ p line b h. rw (ne_eqb b 10 h, pushed line b);
    other_text = λ p line b h. rw (ne_eqb b 10 h);
    end_text_lem = ends;
  }

  -- however its input is cut into reads, their texts, joined, are the transcript of all that was read
  pub transcript_told : (reads : List Read) → answers fed written ending (standing (cold words bytes) (kept [])) reads ≡ transcript words bytes (input_of reads)
  unfolding at transcript told nothing
  transcript_told reads = reads_told (step words bytes) (text words bytes) nothing fed written ending at machine (cold words bytes) reads ∙ append-nil _

  -- ---- the loop over a chunk, in a room that is large enough
  -- a line's text has room behind what is there
  pub turn_fits : {r₀ : Recorder} {chunk room₀ : List ℕ} {r : Recorder} {n : ℕ} {room : List ℕ} {i : ℕ} → Streamed fed written credit 32 r₀ chunk room₀ r n room i → room_for (length chunk) ≤ length room₀ → (n + 1285 ≤ length room) × (length room ≡ length room₀)
  turn_fits {r₀} {chunk} {room₀} {r} {n} {room} {i} s h =
      let k = held_most r₀.line in
      let m = streamed_most fed written credit 32 s (omega arith) in
      (omega arith, m.1)

  -- a turn of it, at a newline and at another byte
  pub fed_newline : (r : Recorder) {b : ℕ} → b ≡ 10 → (fed r b ≡ standing (step words bytes r.channels (held_line r.line)) (kept [])) × (written r b ≡ text words bytes r.channels (held_line r.line))
  unfolding fed written
  fed_newline r {b} e = rw (eq-eqb b 10 e) (refl, refl)

  pub fed_other : (r : Recorder) {b : ℕ} → (b ≡ 10 → ⊥) → (fed r b ≡ standing r.channels (push r.line b)) × (written r b ≡ [])
  unfolding fed written
  fed_other r {b} h = rw (ne_eqb b 10 h) (refl, refl)

-- what a turn pays
pub newline_paid : (l : Held) (n k : ℕ) → k ≤ held l + 32 → n + k + held (kept []) ≤ n + held l + 32
unfolding kept Hex.kept held worth
newline_paid l n k h = omega arith

pub other_paid : (l : Held) (b : ℕ) → held (push l b) ≤ held l + 32
unfolding push push_by Hex.push held worth
other_paid l b = by l.n refl
  where
    by : (n : ℕ) → l.n ≡ n → held (push_by l.n l b) ≤ held l + 32
    by zero e = rw e (omega arith)
    by (suc zero) e = rw e (omega arith)
    by (suc (suc k)) e = let p = push_one 40 l.rest.n in rw e (omega arith)

-- ---- the calls of the program, over the table file's bytes
-- the start is heard's, with its state for each channel: the cold one, or of tables that are refused the zero state
unfoldable pub from : State → Recorder
from s = standing (record { a = s; b = s }) (kept [])

unfoldable pub started : List ℕ → Started
started file = record { recorder = from (Start.started file).recorder.state; number = (Start.started file).number; n = (Start.started file).n }

module _ (file : List ℕ) where
  abbrev pub fed_by : Recorder → ℕ → Recorder
  fed_by = fed (File.words file) (File.bytes file)

  abbrev pub written_by : Recorder → ℕ → List ℕ
  written_by = written (File.words file) (File.bytes file)

  abbrev pub ending_by : Recorder → List ℕ
  ending_by = ending (File.words file) (File.bytes file)

  -- what a read gives, nothing read being the end of the input
  abbrev pub answered_text : Recorder → List ℕ → List ℕ
  answered_text r chunk = Reads.answer_text fed_by written_by ending_by r chunk

  unfoldable pub answered : Recorder → List ℕ → Fed
  answered r chunk = record { recorder = fed_all fed_by r chunk; n = length (answered_text r chunk) }

  -- a turn of the program
  abbrev pub TookIn : Recorder → Recorder → ℕ → Bool → Bool → Type 0
  TookIn r next sent more failed = Took fed_by written_by ending_by r next sent more failed

  -- THE PROGRAM, as its calls promise it: the start's text and, where that is no refusal, those of any reads and of one that gives nothing
  unfoldable pub spoken : List Read → List ℕ
  spoken reads = Start.start_text file ++ cond (eqb (started file).number 0) (answers fed_by written_by ending_by (started file).recorder reads) []

  spoken_by : (n : ℕ) (reads : List Read) → Start.start_text_by n file ++ cond (eqb (Start.started_by n file).number 0) (answers fed_by written_by ending_by (from (Start.started_by n file).recorder.state) reads) [] ≡ output n file (input_of reads)
  unfolding Start.start_text_by Start.started_by Start.begin output from cold
  spoken_by zero reads = transcript_told (File.words file) (File.bytes file) reads
  spoken_by (suc n) reads = rw (ne_eqb (suc n) 0 (λ e. omega arith)) (append-nil (tables_text (suc n) file))

  pub program_told : (reads : List Read) → spoken reads ≡ program file (input_of reads)
  unfolding spoken Start.start_text Start.started started program
  program_told reads = spoken_by (File.check_file file) reads
