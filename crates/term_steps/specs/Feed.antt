-- The recorder takes its input a byte at a time and carries the tally on. Its report is the program's text.
use Prim.Native.Nat.{ℕ, suc, ◌<◌, min}
use Rattle.std.specs.Prelude.{◌≡◌, Bool, not, ◌&&◌, eqb, ltb, ℤ, length}
use Rattle.std.proofs.Math.Path.{refl, sym, ap}
use Rattle.std.proofs.Common.{◌∙◌, arith}
use mathlib.Core.List.{List, [], ◌∷◌, ◌++◌}
use Rattle.std.proofs.Math.Bool.{true, false, cond}
use borrow.Author.Tests.{eq-eqb, ne_eqb}
use Rattle.stream.specs.Lines.{lines}
use Rattle.stream.specs.Held.{push_text_lem, push_count_lem, shown_same, zeros}
use Rattle.stream.specs.Machine.{fed_all, fed_append, written_all}
use Rattle.stream.specs.Reads as Reads
use Rattle.stream.specs.Reads.{Read, input_of, answers_joined}
use Rattle.stream.specs.Told.{after, texts, told, last, Machine, reads_told}
use Rattle.hex_lines.specs.declared.Line.{Line}
use Rattle.hex_lines.specs.Text.{is_frame, is_only}
use Rattle.table_file.specs.File as File
use Rattle.heard.specs.Recording.{event, is_start}
use Rattle.heard.specs.Start as Start
use Rattle.hex_lines.specs.Held.{kept, push, held_line}
use Rattle.tally.specs.declared.Tally.{Tally}
use Rattle.tally.specs.Figures.{tally, full}
use Rattle.term_text.specs.Report.{report}
use Rattle.term_steps.specs.declared.Place.{Place}
use Rattle.term_steps.specs.declared.Recorder.{Recorder}
use Rattle.term_steps.specs.declared.Started.{Started}
use Rattle.term_steps.specs.Term.{is_end}
use Rattle.term_steps.specs.Steps.{line_called, line_ended, placed, full_stays}

abbrev pub standing : Place → Line → Recorder
standing p l = record { first = p.first; state = p.state; line = l; tally = p.tally }

-- the start from the table file's bytes: heard's, with an empty tally
unfoldable pub started : List ℕ → Started
started file =
    record {
      recorder = record { first = (Start.started file).recorder.first; state = (Start.started file).recorder.state; line = (Start.started file).recorder.line; tally = tally 0 [] };
      number = (Start.started file).number;
      n = (Start.started file).n;
    }

module _ (words : List ℤ) (bytes : List ℕ) where
  -- a byte more: a newline ends the line
  unfoldable pub fed : Recorder → ℕ → Recorder
  fed r b =
      cond (eqb b 10) (standing (line_ended words bytes r.first r.state r.tally (held_line r.line)) (kept []))
      (record { first = r.first; state = r.state; line = push r.line b; tally = r.tally })

  -- the tally where the input ends: a line that is open is a line, unless nothing stands in it
  unfoldable pub end_tally : Recorder → Tally
  end_tally r = cond (eqb r.line.n 0) r.tally (line_ended words bytes r.first r.state r.tally (held_line r.line)).tally

  abbrev pub ending : Recorder → List ℕ
  ending r = report (end_tally r)

  -- ---- a turn of the loop
  pub fed_newline : (r : Recorder) {b : ℕ} → b ≡ 10 → fed r b ≡ standing (line_ended words bytes r.first r.state r.tally (held_line r.line)) (kept [])
  unfolding fed
  fed_newline r {b} e = rw (eq-eqb b 10 e)

  pub fed_other : (r : Recorder) {b : ℕ} → (b ≡ 10 → ⊥) → fed r b ≡ record { first = r.first; state = r.state; line = push r.line b; tally = r.tally }
  unfolding fed
  fed_other r {b} h = rw (ne_eqb b 10 h)

  -- ---- it is the machine of the lines, and writes nothing on the way
  abbrev quiet : Place → List ℕ → List ℕ
  quiet p line = []

  abbrev written : Recorder → ℕ → List ℕ
  written r b = []

  abbrev final : Place → List ℕ
  final p = report p.tally

  abbrev pub at : Place → List ℕ → Recorder
  at p line = standing p (kept line)

  step_long : (p : Place) (line : List ℕ) → 40 < length line → placed words bytes p line ≡ placed words bytes p (zeros 41)
  unfolding line_ended line_called event is_frame is_end is_start is_only
  step_long p line h = rw (ne_eqb (length line) 40 (λ e. omega arith), ne_eqb (length line) 1 (λ e. omega arith))

  step_held : (p : Place) (line : List ℕ) → placed words bytes p (held_line (kept line)) ≡ placed words bytes p line
  unfolding held_line kept
  step_held p line = shown_same 40 line (placed words bytes p) (step_long p line)

  ends : (p : Place) (line : List ℕ) → ending (at p line) ≡ last (placed words bytes) quiet final p line
  unfolding end_tally kept last
  ends p [] = refl
  ends p (b ∷ bs) = rw (ne_eqb (min (suc (length bs)) 41) 0 (λ e. omega arith)) (ap final (step_held p (b ∷ bs)))

  machine : Machine (placed words bytes) quiet (last (placed words bytes) quiet final) fed written ending at
  unfolding fed push kept
  machine = record {
    newline = λ p line. ap (λ (q : Place). standing q (kept [])) (step_held p line);
    newline_text = λ p line. refl;
    other = λ p line b h. rw (ne_eqb b 10 h, push_text_lem 40 line b, push_count_lem 40 line b);
    other_text = λ p line b h. refl;
    end_text_lem = ends;
  }

  no_texts : (p : Place) (ls : List (List ℕ)) → texts (placed words bytes) quiet p ls ≡ []
  unfolding texts
  no_texts p [] = refl
  no_texts p (l ∷ ls) = no_texts (placed words bytes p l) ls

  no_writing : (r : Recorder) (xs : List ℕ) → written_all fed written r xs ≡ []
  unfolding written_all
  no_writing r [] = refl
  no_writing r (b ∷ bs) = no_writing (fed r b) bs

  -- what is reported after all reads is the report of all lines
  pub report_told : (p : Place) (reads : List Read) → ending (fed_all fed (at p []) (input_of reads)) ≡ report (after (placed words bytes) p (lines (input_of reads))).tally
  unfolding told
  report_told p reads =
      let j = answers_joined fed written ending (at p []) reads in
      let k = rw (no_writing (at p []) (input_of reads)) at j in
      sym k ∙ reads_told (placed words bytes) quiet final fed written ending at machine p reads ∙ rw (no_texts p (lines (input_of reads)))

  -- ---- one that is full has no use for more input: it would report the same
  full_fed : (r : Recorder) (b : ℕ) → full r.tally ≡ true → (fed r b).tally ≡ r.tally
  unfolding fed
  full_fed r b e = by (eqb b 10)
    where
      by : (newline : Bool) → (cond newline (standing (line_ended words bytes r.first r.state r.tally (held_line r.line)) (kept [])) (record { first = r.first; state = r.state; line = push r.line b; tally = r.tally })).tally ≡ r.tally
      by true = ap (λ (p : Place). p.tally) (full_stays words bytes r.first r.state r.tally (held_line r.line) e)
      by false = refl

  full_end : (r : Recorder) → full r.tally ≡ true → end_tally r ≡ r.tally
  unfolding end_tally
  full_end r e = by (eqb r.line.n 0)
    where
      by : (none : Bool) → cond none r.tally (line_ended words bytes r.first r.state r.tally (held_line r.line)).tally ≡ r.tally
      by true = refl
      by false = ap (λ (p : Place). p.tally) (full_stays words bytes r.first r.state r.tally (held_line r.line) e)

  full_all : (r : Recorder) (input : List ℕ) → full r.tally ≡ true → (fed_all fed r input).tally ≡ r.tally
  unfolding fed_all
  full_all r [] e = refl
  full_all r (b ∷ bs) e = let k = full_fed r b e in full_all (fed r b) bs (rw k e) ∙ k

  pub full_told : (r : Recorder) (input : List ℕ) → full r.tally ≡ true → ending (fed_all fed r input) ≡ ending r
  full_told r input e =
      let k = full_all r input e in
      ap report (full_end (fed_all fed r input) (rw k e) ∙ k ∙ sym (full_end r e))

  -- reads one after the other, until the recorder is full
  unfoldable pub fed_reads : Recorder → List Read → Recorder
  fed_reads r [] = r
  fed_reads r (c ∷ cs) = cond (full (fed_all fed r (Reads.bytes c)).tally) (fed_all fed r (Reads.bytes c)) (fed_reads (fed_all fed r (Reads.bytes c)) cs)

  pub reads_fed : (r : Recorder) (reads : List Read) → ending (fed_reads r reads) ≡ ending (fed_all fed r (input_of reads))
  unfolding fed_reads input_of fed_all
  reads_fed r [] = refl
  reads_fed r (c ∷ cs) = rw (fed_append fed r (Reads.bytes c) (input_of cs)) (by (full (fed_all fed r (Reads.bytes c)).tally) refl (reads_fed (fed_all fed r (Reads.bytes c)) cs))
    where
      by : (t : Bool) → full (fed_all fed r (Reads.bytes c)).tally ≡ t → ending (fed_reads (fed_all fed r (Reads.bytes c)) cs) ≡ ending (fed_all fed (fed_all fed r (Reads.bytes c)) (input_of cs)) → ending (cond t (fed_all fed r (Reads.bytes c)) (fed_reads (fed_all fed r (Reads.bytes c)) cs)) ≡ ending (fed_all fed (fed_all fed r (Reads.bytes c)) (input_of cs))
      by true e h = sym (full_told (fed_all fed r (Reads.bytes c)) (input_of cs) e)
      by false e h = h

module _ (file : List ℕ) where
  abbrev pub fed_by : Recorder → ℕ → Recorder
  fed_by = fed (File.words file) (File.bytes file)

  abbrev pub ending_by : Recorder → List ℕ
  ending_by = ending (File.words file) (File.bytes file)

  -- a turn of the program from r: there were some bytes, `next` is where they leave the recorder, and there is use in more just where there were any and it is
  -- not full; one that failed says no more than where it stopped
  pub record TookIn (r next : Recorder) (more failed : Bool) : Type 0 where
    pub chunk : List ℕ
    pub follows : next ≡ fed_all fed_by r chunk
    pub goes_on : failed ≡ false → more ≡ ltb 0 (length chunk) && not (full next.tally)

  -- THE PROGRAM, as its calls promise it: the start's text and, where that is no refusal, the report after any reads, the last of which it may have stopped at
  unfoldable pub told_by : List Read → List ℕ
  told_by reads = Start.start_text file ++ cond (eqb (started file).number 0) (ending_by (fed_reads (File.words file) (File.bytes file) (started file).recorder reads)) []
