use mathlib.Core.Path.{◌≡◌}
use Prim.Native.Nat.{◌≤◌}
use Rattle.sequence.specs.Total.{total}
use Rattle.tables.specs.Tables.{log_gain}
use Rattle.elementary.specs.Elementary.{bits, add}
use Rattle.gain_state.proofs.mean.Given as goal

abbrev pub invariant-loop-i : goal.invariant-loop-i
invariant-loop-i l = (l.i ≤ 128) × (l.t ≡ total add (bits 0) (log_gain l.bytes) l.i)
