-- A byte, and the four behind it.
use mathlib.Core.Path.{◌∙◌, ap}
use native.Mathlib.Omega.{arith}
use lib.ListN.{length, length-set}
use lib.Seq.{length-sets}
use borrow.Author.Rules.{rules}
use Rattle.desk_tables.proofs.Outcomes.{fault_put}
use Rattle.desk_tables.proofs.put_fault.Goals as goal

pub put_long-requires : goal.put_long-requires
put_long-requires c = simp length-set (omega arith)

pub shape_of-told : goal.shape_of-told
shape_of-told c = ap length c.put_long.ensures ∙ simp (length-sets, length-set)

pub returns : goal.returns
returns c = fault_put c.args.f c.args.told.now _ (search rules) c.put_long.ensures
