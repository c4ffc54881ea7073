-- The counts that the calls gave.
use Rattle.tally.specs.Carried.{with_frame}
use Rattle.counting.proofs.with_frame.Goals as goal

pub returns : goal.returns
unfolding with_frame
returns c = rw (c.before.counted_all-subframes.ensures, c.added_all-clipped.ensures)
