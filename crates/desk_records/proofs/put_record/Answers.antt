-- A byte, and the four behind it.
use mathlib.Core.Path.{◌∙◌, ap}
use native.Mathlib.Numerals.{add-one}
use native.Mathlib.Omega.{arith}
use lib.ListN.{length, length-set}
use lib.Seq.{length-sets}
use Rattle.desk_records.specs.Records.{record_bytes}
use Rattle.desk_records.proofs.put_record.Goals as goal

pub put_long-requires : goal.put_long-requires
put_long-requires c = simp length-set (omega arith)

pub shape_of-records : goal.shape_of-records
shape_of-records c = ap length c.put_long.ensures ∙ simp (length-sets, length-set)

pub returns : goal.returns
unfolding record_bytes
returns c = c.put_long.ensures ∙ rw add-one
