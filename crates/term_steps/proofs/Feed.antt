-- The program, as its calls promise it, writes the text that is specified.
use Prim.Native.Nat.{ℕ, zero, suc}
use Rattle.std.specs.Prelude.{◌≡◌, eqb}
use Rattle.std.proofs.Math.Path.{ap}
use Rattle.std.proofs.Common.{◌∙◌, arith}
use mathlib.Core.List.{List, [], ◌++◌, append-nil}
use Rattle.std.proofs.Math.Bool.{true, cond}
use borrow.Author.Tests.{ne_eqb}
use Rattle.stream.specs.Lines.{lines}
use Rattle.stream.specs.Reads.{Read, input_of}
use Rattle.state.specs.State.{cold_start}
use Rattle.table_file.specs.File as File
use Rattle.heard.specs.Recording.{tables_text}
use Rattle.heard.specs.Start as Start
use Rattle.tally.specs.Figures.{tally}
use Rattle.term_text.specs.Report.{report}
use Rattle.term_steps.specs.Term.{output, program}
use Rattle.term_steps.specs.Steps.{place}
use Rattle.term_steps.specs.Feed.{started, fed_reads, at, report_told, reads_fed, ending_by, told_by}
use Rattle.term_steps.proofs.Steps.{carried_all}

module _ (file : List ℕ) where
  by_number : (n : ℕ) (reads : List Read) → Start.start_text_by n file ++ cond (eqb (Start.started_by n file).number 0) (ending_by file (fed_reads (File.words file) (File.bytes file) (record { first = (Start.started_by n file).recorder.first; state = (Start.started_by n file).recorder.state; line = (Start.started_by n file).recorder.line; tally = tally 0 [] }) reads)) [] ≡ output n file (input_of reads)
  unfolding Start.start_text_by Start.started_by Start.begin output
  by_number zero reads =
      reads_fed (File.words file) (File.bytes file) (at (File.words file) (File.bytes file) (place true (cold_start (File.words file) (File.bytes file)).state (tally 0 [])) []) reads
      ∙ report_told (File.words file) (File.bytes file) (place true (cold_start (File.words file) (File.bytes file)).state (tally 0 [])) reads
      ∙ ap report (carried_all (File.words file) (File.bytes file) (lines (input_of reads)))
  by_number (suc n) reads = rw (ne_eqb (suc n) 0 (λ e. omega arith)) (append-nil (tables_text (suc n) file))

  pub program_told : (reads : List Read) → told_by file reads ≡ program file (input_of reads)
  unfolding told_by started Start.start_text Start.started program
  program_told reads = by_number (File.check_file file) reads
