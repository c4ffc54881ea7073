-- What compare writes names the first line that differs.
use Rattle.std.specs.Prelude.{ℕ, ◌≡◌, List}
use Rattle.std.proofs.Common.{arith}
use Rattle.stream.specs.Lines.{lines}
use Rattle.table_file.specs.File as File
use Rattle.heard.specs.Recording.{transcript}
use Rattle.verdict.specs.Differs.{Named, judge_named}
use Rattle.beside.specs.Beside.{output, program}

-- of what compare writes over tables that are accepted
pub program_named : (file recording supplier : List ℕ) → File.check_file file ≡ 0 → Named 1 (lines (transcript (File.words file) (File.bytes file) recording)) (lines supplier) (program file recording supplier)
unfolding program output
program_named file recording supplier e = rw e (judge_named 1 (lines (transcript (File.words file) (File.bytes file) recording)) (lines supplier) (omega arith))
