-- The tests of the match settle those of the definition.
use borrow.Author.Tests.{le-leb, lt-leb}
use native.Mathlib.Omega.{arith}
use Rattle.hex_lines.specs.Text.{value}
use Rattle.hex_lines.proofs.value.Goals as goal

pub returns-in-48-to-57 : goal.returns-in-48-to-57
unfolding value
returns-in-48-to-57 c = let x = c.args.c in rw (le-leb 48 x (omega arith), le-leb x 57 (omega arith))

pub returns-in-65-to-70 : goal.returns-in-65-to-70
unfolding value
returns-in-65-to-70 c = let x = c.args.c in rw (le-leb 48 x (omega arith), lt-leb x 57 (omega arith), lt-leb 97 x (omega arith), le-leb 65 x (omega arith), le-leb x 70 (omega arith)) (omega arith)

pub returns-in-97-to-102 : goal.returns-in-97-to-102
unfolding value
returns-in-97-to-102 c = let x = c.args.c in rw (le-leb 48 x (omega arith), lt-leb x 57 (omega arith), le-leb 97 x (omega arith), le-leb x 102 (omega arith)) (omega arith)

pub returns-in_default : goal.returns-in_default
unfolding value
returns-in_default c = let x = c.args.c in rw (lt-leb 48 x (omega arith), lt-leb 97 x (omega arith), lt-leb 65 x (omega arith))

pub returns-in_default-2 : goal.returns-in_default-2
unfolding value
returns-in_default-2 c = let x = c.args.c in rw (le-leb 48 x (omega arith), lt-leb x 57 (omega arith), lt-leb 97 x (omega arith), lt-leb 65 x (omega arith))

pub returns-in_default-3 : goal.returns-in_default-3
unfolding value
returns-in_default-3 c = let x = c.args.c in rw (le-leb 48 x (omega arith), lt-leb x 57 (omega arith), lt-leb 97 x (omega arith), le-leb 65 x (omega arith), lt-leb x 70 (omega arith))

pub returns-in_default-4 : goal.returns-in_default-4
unfolding value
returns-in_default-4 c = let x = c.args.c in rw (le-leb 48 x (omega arith), lt-leb x 57 (omega arith), le-leb 97 x (omega arith), lt-leb x 102 (omega arith), le-leb 65 x (omega arith), lt-leb x 70 (omega arith))
