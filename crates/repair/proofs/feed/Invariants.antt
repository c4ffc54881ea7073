use Rattle.repair.proofs.Turns.{stands, Fills}
use Rattle.repair.proofs.feed.Given as goal

abbrev pub invariant-loop-b : goal.invariant-loop-b
invariant-loop-b l =
    Fills (stands l.initial.place l.initial.n l.initial.held) l.chunk l.initial.out l.initial.list (stands l.place l.n l.held) l.repaired l.out l.listed l.list l.b-index
