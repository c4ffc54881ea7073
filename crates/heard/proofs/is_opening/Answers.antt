-- Only a first line is asked.
use Rattle.heard.specs.Recording.{is_start}
use Rattle.heard.proofs.is_opening.Goals as goal

pub returns-then-first : goal.returns-then-first
unfolding is_start
returns-then-first c = rw c.if-first.true c.is_only.ensures

pub returns : goal.returns
returns c = rw c.if-first.false
