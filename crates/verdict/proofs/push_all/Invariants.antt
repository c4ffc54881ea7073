use Rattle.std.proofs.Common.{◌≡◌, length, take}
use Rattle.stream.specs.Machine.{fed_all}
use Rattle.verdict.specs.Kept.{kept, pushed}
use Rattle.verdict.proofs.push_all.Given as goal

abbrev pub invariant-loop-b : goal.invariant-loop-b
invariant-loop-b l = (length l.held ≡ 1283) × (kept l.held l.n ≡ fed_all pushed (kept l.initial.held l.start) (take l.b-index l.part))
