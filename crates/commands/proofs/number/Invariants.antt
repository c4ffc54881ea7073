use Prim.Native.Nat.{◌≤◌}
use mathlib.Core.Path.{◌≡◌}
use lib.ListN.{drop}
use Rattle.commands.specs.Commands.{NONE, number_from}
use Rattle.commands.proofs.number.Given as goal

abbrev pub invariant-loop-c : goal.invariant-loop-c
invariant-loop-c l = (l.v ≤ NONE) × (number_from 0 l.text ≡ number_from l.v (drop l.c-index l.text))
