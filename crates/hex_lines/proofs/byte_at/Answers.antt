-- A digit is worth less than 16.
use Rattle.std.proofs.Common.{rules, ◌+◌, ◌*◌, arith}
use Rattle.hex_lines.specs.Text.{byte_at}
use Rattle.hex_lines.proofs.Digits.{worth}
use Rattle.hex_lines.proofs.byte_at.Goals as goal

pub overflow_mul-result : goal.overflow_mul-result
overflow_mul-result c =
    let h = worth c.args.text.now c.requires.digits (2 * c.args.k) (search rules) in
    omega (arith, c.value.ensures)

pub overflow_add-result : goal.overflow_add-result
overflow_add-result c =
    let h = worth c.args.text.now c.requires.digits (2 * c.args.k) (search rules) in
    let l = worth c.args.text.now c.requires.digits (2 * c.args.k + 1) (search rules) in
    omega (arith, c.value-2.ensures, c.value.ensures)

pub returns : goal.returns
unfolding byte_at
returns c = rw (c.value-2.ensures, c.value.ensures)
