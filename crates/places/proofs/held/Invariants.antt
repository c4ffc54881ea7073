use Prim.Native.Nat.{◌≤◌}
use mathlib.Core.Path.{◌≡◌}
use lib.ListN.{length, take}
use Rattle.hex_lines.specs.Held.{kept}
use Rattle.places.proofs.held.Given as goal

abbrev pub invariant-loop-b : goal.invariant-loop-b
invariant-loop-b l = (l.b-index ≤ length l.line) × (l.l ≡ kept (take l.b-index l.line))
