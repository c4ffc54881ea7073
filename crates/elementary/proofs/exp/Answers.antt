-- A finite x times a constant plus another is no NaN, even where it overflows, and the exponent's field is at most 158: no range of x enters.
use Prim.Native.Nat.{◌%◌}
use mathlib.Core.Path.{refl}
use native.Mathlib.Omega.{arith}
use lib.Dec.{le→leb}
use lib.Ieee.{binary32, to_bits, in_float}
use Rattle.floats.specs.NoNan.{no_nan_bits}
use Rattle.elementary.specs.Elementary.{exp, scaled, scaled_no_nan}
use Rattle.elementary.proofs.exp.Goals as goal

pub float_to_bits-n : goal.float_to_bits-n
unfolding scaled
float_to_bits-n c = scaled_no_nan c.args.x c.requires

pub int_to_float-k : goal.int_to_float-k
unfolding in_float scaled
int_to_float-k c = le→leb (to_bits binary32 (scaled c.before.args.x) % 64) 16777216 (omega arith)

pub float_from_bits-w : goal.float_from_bits-w
float_from_bits-w c = no_nan_bits _ (omega arith)

pub returns : goal.returns
unfolding exp
returns c = refl
