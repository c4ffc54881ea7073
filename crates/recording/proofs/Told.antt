-- What the calls of a recording promise, joined over any reads, is the program's text.
use Prim.Native.Nat.{ℕ, zero, suc}
use Rattle.std.specs.Prelude.{◌≡◌, cond, eqb, ℤ}
use Rattle.std.proofs.Common.{◌∙◌, arith}
use mathlib.Core.List.{List, [], ◌++◌, append-nil}
use Rattle.std.proofs.Math.Bool.{true}
use borrow.Author.Tests.{ne_eqb}
use Rattle.stream.specs.Lines.{lines}
use Rattle.stream.specs.Reads.{Read, input_of, answers}
use Rattle.stream.specs.Told.{told, reads_told}
use Rattle.state.specs.State.{cold_start}
use Rattle.table_file.specs.File as File
use Rattle.heard.specs.Recording.{transcript, tables_text, output, program}
use Rattle.heard.specs.Start.{begin, start_text_by, start_text, started_by, started}
use Rattle.recording.specs.Feed.{fed, written, ending, at, place_step, place_text, nothing, machine, begun, fed_by, written_by, ending_by, spoken}

module _ (words : List ℤ) (bytes : List ℕ) where
  -- however its input is cut into reads, their texts, joined, are the transcript of all that was read
  pub transcript_told : (reads : List Read) → answers (fed words bytes) (written words bytes) (ending words bytes) (begin words bytes) reads ≡ transcript words bytes (input_of reads)
  unfolding begin at transcript told nothing
  transcript_told reads =
      reads_told (place_step words bytes) (place_text words bytes) (nothing words bytes) (fed words bytes) (written words bytes) (ending words bytes) (at words bytes) (machine words bytes) (record { first = true; state = (cold_start words bytes).state }) reads
      ∙ append-nil _
      ∙ begun words bytes (lines (input_of reads))

module _ (file : List ℕ) where
  spoken_by : (n : ℕ) (reads : List Read) → start_text_by n file ++ cond (eqb (started_by n file).number 0) (answers (fed_by file) (written_by file) (ending_by file) (started_by n file).recorder reads) [] ≡ output n file (input_of reads)
  unfolding start_text_by started_by output
  spoken_by zero reads = transcript_told (File.words file) (File.bytes file) reads
  spoken_by (suc n) reads = rw (ne_eqb (suc n) 0 (λ e. omega arith)) (append-nil (tables_text (suc n) file))

  pub program_told : (reads : List Read) → spoken file reads ≡ program file (input_of reads)
  unfolding spoken start_text started program
  program_told reads = spoken_by (File.check_file file) reads
