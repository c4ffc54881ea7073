-- Another decoder's lines beside ours: what compare writes follows from the bytes of the table file, of the recording and of the supplier's lines.
use Rattle.std.specs.Prelude.{ℕ, zero, suc, List}
use Rattle.stream.specs.Lines.{lines}
use Rattle.table_file.specs.File as File
use Rattle.heard.specs.Recording.{transcript, tables_text}
use Rattle.verdict.specs.Verdict.{judge}

-- all that compare writes, by the table file's refusal number
unfoldable pub output : ℕ → List ℕ → List ℕ → List ℕ → List ℕ
output zero file recording supplier = judge 1 (lines (transcript (File.words file) (File.bytes file) recording)) (lines supplier)
output (suc n) file recording supplier = tables_text (suc n) file

unfoldable pub program : List ℕ → List ℕ → List ℕ → List ℕ
program file recording supplier = output (File.check_file file) file recording supplier
