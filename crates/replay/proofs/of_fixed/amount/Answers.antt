-- The low 32 bits are a number of 32 bits.
use mir.Syntax.{w32, w64}
use Rattle.fixed.specs.Machine.{back, wrap_sfits}
use Rattle.replay.proofs.of_fixed.amount.Goals as goal

pub overflow_cast-result : goal.overflow_cast-result
overflow_cast-result c = rw (back w64 c.trunc32.result c.trunc32.type_inv, c.trunc32.ensures) (wrap_sfits w32 32 _ tt)
