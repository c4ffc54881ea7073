-- The last turn leads to what it leaves; one before it leads to what it hands on.
use Rattle.std.proofs.Common.{of_calls}
use Rattle.turns.specs.Turns.{last, more}
use Rattle.turns.proofs.take_turns.Goals as goal

pub returns-in-Break : goal.returns-in-Break
returns-in-Break g c = c.loop.invariant.rest _ (last {f = c.loop.turn} {after = c.turn.new.self} {s = c.loop.left} {left = c.in-Break.last} (rw c.in-Break.is at c.in_ok-next.ensures))

pub loop-preserved : goal.loop-preserved
loop-preserved g c = record {
  callable = search of_calls;
  rest = λ left t. c.loop.invariant.rest left (more {f = c.loop.turn} {after = c.turn.new.self} {s = c.loop.left} {next = c.in-Continue.next} {left = left} (rw c.in-Continue.is at c.in_ok-next.ensures) t);
}
