-- Four stores, one after the other.
use lib.ListN.{length-set}
use Rattle.hex_lines.specs.Text.{four_digits}
use Rattle.hex_lines.specs.Stores.{four_stores}
use native.Mathlib.Omega.{arith}
use Rattle.hex_lines.proofs.put_digits.Goals as goal

pub bounds-out-at-2 : goal.bounds-out-at-2
bounds-out-at-2 c = simp length-set (omega arith)

pub bounds-out-at-3 : goal.bounds-out-at-3
bounds-out-at-3 c = simp length-set (omega arith)

pub bounds-out-at-4 : goal.bounds-out-at-4
bounds-out-at-4 c = simp length-set (omega arith)

pub returns : goal.returns
unfolding four_digits
returns c =
    rw (four_stores, c.last_digit-4.ensures, c.last_digit-3.ensures, c.last_digit-2.ensures, c.last_digit.ensures)
