-- The fewest digits are the number's.
use Rattle.stream.specs.Decimal.{fewest_small}
use mathlib.Core.Path.{◌∙◌}
use native.Mathlib.Omega.{arith}
use Rattle.stream.specs.Decimal.{decimal, fewest}
use Rattle.stream.proofs.put_decimal.Goals as goal

pub put_at-requires : goal.put_at-requires
put_at-requires c =
    let d = c.before.before.decimal-k in
    let s = c.before.before.before.before.before in
    let m = fewest_small s.args.value d.result (omega arith) d.ensures.len in
    omega arith

pub returns : goal.returns
unfolding decimal
returns c =
    let d = c.before.before.before.before.before.decimal-k in
    let s = c.before.before.before.before.before.before.before.before.args in
    let w = d.ensures.len in
    let t = d.ensures.digits ∙ fewest 20 d.result s.value (fewest_small s.value d.result (omega arith) w) w in
    rw t at c.before.before.put_at.ensures
