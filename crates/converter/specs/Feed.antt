-- The converter takes its input a byte at a time and writes a text at each line's end. What its calls promise, joined, is the program's text.
use Rattle.std.specs.Prelude.{ℕ, suc, ◌+◌, ◌*◌, ◌<◌, min, ◌≡◌, Bool, false, cond, eqb, length}
use Rattle.std.proofs.Math.Path.{refl, sym}
use Rattle.std.proofs.Common.{◌∙◌, arith, lit<, ne_eqb}
use mathlib.Core.List.{List, [], ◌∷◌, append-nil}
use Rattle.std.proofs.Math.Bool.{true}
use Rattle.stream.specs.Held.{start, count, shown, zeros, push_text, push_count, push_text_lem, push_count_lem, shown_same}
use Rattle.stream.specs.Machine.{fed_all, written_all}
use Rattle.stream.specs.Reads.{Read, input_of, answers, Took}
use Rattle.stream.specs.Reads as Reads
use Rattle.stream.specs.Told.{told, last, Machine, reads_told}
use Rattle.hex_lines.specs.Text.{is_only, is_frame}
use Rattle.receiver.specs.Receiver.{is_line, read_number}
use Rattle.convert.specs.declared.Way.{Way}
use Rattle.convert.specs.declared.Way.TheVariants.{ToReceiver, FromReceiver}
use Rattle.converter.specs.declared.Held.{Held}
use Rattle.converter.specs.declared.Converter.{Converter}
use Rattle.converter.specs.declared.Fed.{Fed}
use Rattle.convert.specs.Convert.{line_or, to_number, to_receiver, from_receiver, text, step, program}

-- ---- what is held of a line
unfoldable pub kept : List ℕ → Held
kept line = record { text = start 162 line; n = count 162 line }

unfoldable pub push : Held → ℕ → Held
push l b = record { text = push_text 162 l.text l.n b; n = push_count 162 l.n }

-- the line that it tells
unfoldable pub held_line : Held → List ℕ
held_line l = shown 162 l.text l.n

-- ---- where a file stands
abbrev pub standing : Bool → Held → Converter
standing first line = record { first = first; line = line }

unfoldable pub begin : Converter
begin = standing true (kept [])

-- the room that a chunk of n bytes asks: 11 for each of its own and of those that are held, and one text more. The 163 bytes of a line of digits are paid for by
-- the 41 of the frame's, and a refusal's 11 by one
abbrev pub room_for : ℕ → ℕ
room_for n = 11 * (n + 178)

abbrev pub credit : Converter → ℕ
credit r = 11 * min r.line.n 163

-- a byte more: a newline ends the line
unfoldable pub fed : Converter → ℕ → Converter
fed r b = cond (eqb b 10) (standing false (kept [])) (standing r.first (push r.line b))

-- a line that is too long is refused as an empty one is
pub too_long : (way : Way) (first : Bool) (line : List ℕ) → 162 < length line → text way first line ≡ text way first []
unfolding text is_only to_receiver to_number is_frame from_receiver read_number is_line line_or
too_long ToReceiver first line h = rw (ne_eqb (length line) 1 (λ e. omega arith), ne_eqb (length line) 40 (λ e. omega arith))
too_long FromReceiver first line h = rw (ne_eqb (length line) 1 (λ e. omega arith), ne_eqb (length line) 162 (λ e. omega arith))

module _ (way : Way) where
  -- what is written at a byte: the text of the line that it ends
  unfoldable pub written : Converter → ℕ → List ℕ
  written r b = cond (eqb b 10) (text way r.first (held_line r.line)) []

  -- what is written where the input ends: a line that is open is a line, unless nothing stands in it
  unfoldable pub ending : Converter → List ℕ
  ending r = cond (eqb r.line.n 0) [] (text way r.first (held_line r.line))

  -- a chunk: where it leaves the converter, and how long its text is
  unfoldable pub fed_chunk : Converter → List ℕ → Fed
  fed_chunk r chunk = record { converter = fed_all fed r chunk; n = length (written_all fed written r chunk) }

  -- what a read gives, nothing read being the end of the input
  abbrev pub answered_text : Converter → List ℕ → List ℕ
  answered_text r chunk = Reads.answer_text fed written ending r chunk

  unfoldable pub answered : Converter → List ℕ → Fed
  answered r chunk = record { converter = fed_all fed r chunk; n = length (answered_text r chunk) }

  -- a turn of the program
  abbrev pub TookIn : Converter → Converter → ℕ → Bool → Bool → Type 0
  TookIn r next sent more failed = Took fed written ending r next sent more failed

  -- ---- it is the machine of the lines
  at : Bool → List ℕ → Converter
  at first line = standing first (kept line)

  text_held : (first : Bool) (line : List ℕ) → text way first (held_line (kept line)) ≡ text way first line
  unfolding held_line kept
  text_held first line = shown_same 162 line (text way first) (λ h. too_long way first line h ∙ sym (too_long way first (zeros 163) (lit< tt)))

  -- nothing more is written at the end
  nothing : Bool → List ℕ
  nothing first = []

  ends : (first : Bool) (line : List ℕ) → ending (at first line) ≡ last step (text way) nothing first line
  unfolding at ending kept last nothing
  ends first [] = refl
  ends first (b ∷ bs) = rw (ne_eqb (min (suc (length bs)) 163) 0 (λ e. omega arith), append-nil) (text_held first (b ∷ bs))

  machine : Machine step (text way) (last step (text way) nothing) fed written ending at
  unfolding at fed written push kept
  machine = record {
    newline = λ first line. refl;
    newline_text = λ first line. text_held first line;
    other = λ first line b h. rw (ne_eqb b 10 h, push_text_lem 162 line b, push_count_lem 162 line b);
    other_text = λ first line b h. rw (ne_eqb b 10 h);
    end_text_lem = ends;
  }

  -- THE PROGRAM, as its calls promise it: the texts of any reads and of one that gives nothing, joined, are the definition's of all that was read
  pub program_told : (reads : List Read) → answers fed written ending begin reads ≡ program way (input_of reads)
  unfolding begin at program told nothing
  program_told reads = reads_told step (text way) nothing fed written ending at machine true reads ∙ append-nil _
