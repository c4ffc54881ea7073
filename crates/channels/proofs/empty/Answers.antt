-- Nothing is held.
use Rattle.channel_lines.specs.Feed.{kept}
use Rattle.channels.proofs.empty.Goals as goal

pub returns : goal.returns
unfolding kept
returns c = rw c.empty-rest.ensures
