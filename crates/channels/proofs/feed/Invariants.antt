use Rattle.stream.specs.Machine.{Streamed}
use Rattle.channel_lines.specs.Feed.{standing, credit, fed, written}
use Rattle.channels.proofs.feed.Given as goal

abbrev pub invariant-loop-b : goal.invariant-loop-b
invariant-loop-b l = Streamed (fed l.words l.bytes) (written l.words l.bytes) credit 32 (standing l.initial.channels l.initial.line) l.chunk l.initial.room (standing l.channels l.line) l.n l.room l.b-index
