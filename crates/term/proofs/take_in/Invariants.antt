use Rattle.std.proofs.Common.{◌≡◌, take}
use Rattle.stream.specs.Machine.{fed_all}
use Rattle.term_steps.specs.Steps.{place}
use Rattle.term_steps.specs.Feed.{standing, fed}
use Rattle.term.proofs.take_in.Given as goal

abbrev pub invariant-loop-b : goal.invariant-loop-b
invariant-loop-b l = standing (place l.first l.state l.tally) l.line ≡ fed_all (fed l.words l.bytes) (standing (place l.initial.first l.initial.state l.initial.tally) l.initial.line) (take l.b-index l.chunk)
