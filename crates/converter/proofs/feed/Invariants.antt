use Rattle.stream.specs.Machine.{Streamed}
use Rattle.converter.specs.Feed.{standing, credit, fed, written}
use Rattle.converter.proofs.feed.Given as goal

abbrev pub invariant-loop-b : goal.invariant-loop-b
invariant-loop-b l = Streamed fed (written l.way) credit 11 (standing l.initial.first l.initial.line) l.chunk l.initial.room (standing l.first l.line) l.n l.room l.b-index
