use mathlib.Core.Path.{◌≡◌}
use lib.ListN.{take}
use Rattle.stream.specs.Machine.{fed_all}
use Rattle.hex_lines.specs.Held.{push}
use Rattle.playback.proofs.push_all.Given as goal

abbrev pub invariant-loop-b : goal.invariant-loop-b
invariant-loop-b l = l.l ≡ fed_all push l.initial.l (take l.b-index l.part)
