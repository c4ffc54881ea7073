-- A place that is none stays as it is.
use mathlib.Core.Path.{sym}
use lib.Seq.{set_out}
use Rattle.tally.specs.Carried.{bump}
use Rattle.counting.proofs.bump.Goals as goal

pub returns-then-k-counts : goal.returns-then-k-counts
unfolding bump
returns-then-k-counts c = rw c.more.ensures

pub returns-else-k-counts : goal.returns-else-k-counts
unfolding bump
returns-else-k-counts c = sym (set_out _ _ _ c.if-k-counts.false)
