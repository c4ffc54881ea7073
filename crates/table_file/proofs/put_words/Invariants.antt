use mathlib.Core.Path.{◌≡◌}
use lib.ListN.{length}
use Rattle.sequence.specs.Table.{Written}
use Rattle.table_file.specs.File.{word_at}
use Rattle.table_file.proofs.put_words.Given as goal

abbrev pub invariant-loop-k : goal.invariant-loop-k
invariant-loop-k l = (length l.file ≡ 15834) × Written (word_at l.file) 5963 l.words l.k
