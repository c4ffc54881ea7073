use Rattle.stream.specs.Machine.{Streamed}
use Rattle.recording.specs.Feed.{standing, credit, fed, written}
use Rattle.recording.proofs.feed.Given as goal

abbrev pub invariant-loop-b : goal.invariant-loop-b
invariant-loop-b l = Streamed (fed l.words l.bytes) (written l.words l.bytes) credit 32 (standing l.initial.first l.initial.state l.initial.line) l.chunk l.initial.room (standing l.first l.state l.line) l.n l.room l.b-index
