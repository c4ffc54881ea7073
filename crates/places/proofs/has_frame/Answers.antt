-- There is one just where its place is not the end.
use Rattle.places.specs.Places.{has_at}
use Rattle.places.proofs.has_frame.Goals as goal

pub returns : goal.returns
returns c = has_at _ _ _ c.place_of.ensures
