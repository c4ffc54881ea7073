use Rattle.std.specs.Prelude.{ℕ, Bool, ◌≡◌, ◌<◌}
use Rattle.sequence.specs.First.{Looked}
use Rattle.rules.proofs.some.Given as goal

abbrev pub invariant-loop-k : goal.invariant-loop-k
invariant-loop-k g l = (p : ℕ → Bool) → ((k : ℕ) (b : Bool) → k < l.n → g.F.Fn.post l.offends (k, tt) b → b ≡ p k) → Looked p l.n l.any l.k
