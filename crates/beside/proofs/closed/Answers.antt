-- As it is, with an empty line.
use Rattle.beside.proofs.closed.Goals as goal

pub returns : goal.returns
returns c = rw c.empty-line.ensures
