-- One byte, which is the array's first.
use Rattle.std.proofs.Common.{rules, length, eq-eqb, ne_eqb, le-leb, arith}
use lib.Seq.{get_or-take}
use Rattle.stream.specs.Held.{shown, shown_long}
use Rattle.hex_lines.specs.Text.{is_only}
use Rattle.hex_lines.specs.Held.{held_line}
use Rattle.hex_lines.proofs.is_only.Goals as goal

pub returns-then-line-eq1 : goal.returns-then-line-eq1
unfolding is_only held_line shown
returns-then-line-eq1 c =
    let l = c.args.line in
    let h = c.if-line-eq1.true in
    let z = shown_long 40 l.text l.n (search rules) in
    rw (eq-eqb (length (shown 40 l.text l.n)) 1 (omega arith), le-leb l.n 40 (omega arith), get_or-take l.n l.text 0 0 (omega arith))

pub returns-else-line-eq1 : goal.returns-else-line-eq1
unfolding is_only held_line
returns-else-line-eq1 c =
    let l = c.args.line in
    let z = shown_long 40 l.text l.n (search rules) in
    rw (ne_eqb (length (shown 40 l.text l.n)) 1 (λ e. c.if-line-eq1.false (omega arith))) (ne_eqb l.n 1 c.if-line-eq1.false)
