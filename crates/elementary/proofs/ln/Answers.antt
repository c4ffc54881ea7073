-- The patterns that are formed lie below the infinity's whatever x is, so no range of x enters; the result is the definition's own expression.
use Prim.Native.Nat.{◌+◌, ◌%◌, ◌/◌}
use mathlib.Core.Path.{refl}
use native.Mathlib.Omega.{arith}
use lib.Dec.{le→leb}
use lib.Ieee.{binary32, to_bits, in_float}
use Rattle.floats.specs.NoNan.{no_nan_bits}
use Rattle.elementary.specs.Elementary.{ln}
use Rattle.elementary.proofs.ln.Goals as goal

pub float_from_bits-f : goal.float_from_bits-f
float_from_bits-f c = no_nan_bits _ (omega arith)

pub int_to_float-d : goal.int_to_float-d
unfolding in_float
int_to_float-d c = le→leb ((to_bits binary32 c.before.args.x % 0x8000_0000 + 0x55_5555) / 0x80_0000) 16777216 (omega arith)

pub returns : goal.returns
unfolding ln
returns c = refl
