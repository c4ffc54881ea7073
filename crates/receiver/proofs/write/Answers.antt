-- By the two tests; nothing is written before they are passed.
use Rattle.std.proofs.Common.{refl, ◌∙◌}
use lib.Bits.{bit_and}
use lib.ListN.{get_or}
use borrow.Author.Tests.{eq-eqb, ne_eqb}
use Rattle.bits.specs.Bytes.{mask_bits}
use Rattle.receiver.specs.Receiver.{accepted, order, write}
use Rattle.sequence.specs.Table.{table}
use Rattle.receiver.specs.Order.{line_walked}
use Rattle.receiver.proofs.Walk.{write_settled}
use Rattle.receiver.proofs.write.Goals as goal

pub returns-then-payload-ne20 : goal.returns-then-payload-ne20
unfolding write
returns-then-payload-ne20 c = let s = write_settled _ c.args.line.now _ (simp (ne_eqb _ 20 c.if-payload-ne20.true)) in record { answer = s.0; number = s.1; line = s.2 }

pub returns-then-payload-ne0 : goal.returns-then-payload-ne0
unfolding write
returns-then-payload-ne0 c =
    let l = eq-eqb _ 20 c.if-payload-ne20.false in
    let m = ne_eqb (bit_and (get_or c.args.payload.now 19 0) 192) 0 c.if-payload-ne0.true in
    let s = write_settled _ c.args.line.now _ (simp (l, m)) in
    record { answer = s.0; number = s.1; line = s.2 }

pub digits_of-requires-clause-table : goal.digits_of-requires-clause-table
unfolding order table
digits_of-requires-clause-table c = refl

pub returns : goal.returns
unfolding write
returns c =
    let a = c.args in
    let p = a.payload.now in
    let m = c.if-payload-ne0.false in
    let n = eq-eqb _ 0 m in
    let s = write_settled p a.line.now accepted (simp (eq-eqb _ 20 c.if-payload-ne20.false, n)) in
    record { answer = s.0; number = s.1; line = c.digits_of.ensures ∙ line_walked p (mask_bits p m).0 ∙ s.2 }
