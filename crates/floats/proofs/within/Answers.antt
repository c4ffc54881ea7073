-- The bound is a float exactly, so the two comparisons are with the bound itself.
use Rattle.std.proofs.Common.{◌^◌, pos, ◌∙◌, le→leb}
use lib.Ieee.{in_float, of_int, binary32}
use Rattle.floats.specs.Value.{whole_val}
use Rattle.floats.proofs.Range.{in_range_lem, too_low}
use Rattle.floats.proofs.within.Goals as goal

pub int_to_float-b : goal.int_to_float-b
unfolding in_float
int_to_float-b c = le→leb c.before.args.bound (2 ^ 24) c.before.requires

pub returns-then-x-b : goal.returns-then-x-b
returns-then-x-b c = let s = c.before.before in in_range_lem s.args.bound (of_int binary32 (pos s.args.bound)) s.args.x (whole_val s.args.bound s.requires) c.if-x-b.true

pub returns-else-x-b : goal.returns-else-x-b
returns-else-x-b c = let s = c.before.before in c.if-x-b.false ∙ too_low s.args.bound (of_int binary32 (pos s.args.bound)) s.args.x (whole_val s.args.bound s.requires) c.if-x-b.false
