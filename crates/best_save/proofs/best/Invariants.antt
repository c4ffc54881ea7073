use mathlib.Core.Path.{◌≡◌}
use Rattle.best_save.specs.Best.{best_of}
use Rattle.best_save.proofs.best.Given as goal

abbrev pub invariant-loop-j : goal.invariant-loop-j
invariant-loop-j l = l.b ≡ best_of l.k l.fn.slots l.j
