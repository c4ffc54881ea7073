use mathlib.Core.Path.{sym}
use native.Mathlib.Omega.{arith}
use Rattle.slot_users.specs.Held.{held_out, held_none, held_yes}
use Rattle.slot_users.proofs.held.Goals as goal

pub returns-then-slot-gt15 : goal.returns-then-slot-gt15
returns-then-slot-gt15 c = sym (held_out _ _ _ _ (omega arith))

pub returns-then-s-eq0 : goal.returns-then-s-eq0
returns-then-s-eq0 c = sym (held_none c.args.slots c.args.slot _ _ (omega arith) c.if-s-eq0.true)

pub returns-else-s-eq0 : goal.returns-else-s-eq0
returns-else-s-eq0 c = sym (held_yes c.args.slots c.args.slot _ _ (omega arith) c.if-s-eq0.false)
