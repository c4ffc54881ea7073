-- A 16-bit number times 41722 is far within 64 bits.
use native.Mathlib.Omega.{arith}
use Prim.Native.Nat.{◌≤◌}
use lib.IntN.{nat_abs}
use lib.Signed.{yes_non_neg}
use mir.Syntax.{w16}
use mir.ValLaws.{to_z-of_z}
use Rattle.fixed.specs.Machine.{abs_sfits}
use Rattle.lsp.specs.Lsp as Lsp
use Rattle.lsp.proofs.position.Goals as goal
use Rattle.lsp.proofs.position.Goals.{Start}

le : (c : goal.Start) → nat_abs c.args.lsf ≤ 32768
le c = abs_sfits w16 c.args.lsf c.ranges.lsf

pub overflow_cast-result : goal.overflow_cast-result
overflow_cast-result c = rw (to_z-of_z w16 c.args.lsf c.ranges.lsf) (yes_non_neg c.requires, record { fits = omega (arith, le c) })

pub overflow_mul-result : goal.overflow_mul-result
overflow_mul-result c = rw (to_z-of_z w16 c.args.lsf c.ranges.lsf) (record { fits = omega (arith, le c) })

pub overflow_mul-result-2 : goal.overflow_mul-result-2
overflow_mul-result-2 c = rw (to_z-of_z w16 c.args.lsf c.ranges.lsf) (record { fits = omega (arith, le c) })

pub returns : goal.returns
unfolding Lsp.position
returns c = rw (to_z-of_z w16 c.args.lsf c.ranges.lsf)
