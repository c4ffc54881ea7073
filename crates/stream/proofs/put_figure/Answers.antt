-- One behind the other.
use Rattle.stream.specs.Decimal.{figure_parts}
use native.Mathlib.Omega.{arith}
use Rattle.stream.specs.Decimal.{decimal_long}
use Rattle.stream.proofs.put_figure.Goals as goal

pub put_at-requires : goal.put_at-requires
put_at-requires c =
    let l = decimal_long c.args.value in
    omega arith

pub returns : goal.returns
returns c =
    let p = figure_parts c.args.name.now c.args.value c.args.n c.args.room.now in
    rw (c.put_at.ensures.next, c.put_at.ensures.text, c.put_decimal-b.ensures.next, c.put_decimal-b.ensures.text, c.put_at-a.ensures.next, c.put_at-a.ensures.text) (record { next = p.0; text = p.1 })
