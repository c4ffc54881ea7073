use Rattle.std.specs.Prelude.{◌≡◌, ◌≤◌, ◌-◌}
use Rattle.sequence.specs.First.{first, first_from}
use Rattle.tables.specs.Tables.{bad, count}
use Rattle.rules.specs.Rule.{number}
use Rattle.rules.proofs.Rule.first_bad.Given as goal

abbrev pub invariant-loop-k : goal.invariant-loop-k
invariant-loop-k l = (l.k ≤ l.n) × (l.n ≡ count (number l.self)) × (first (bad l.words l.bytes (number l.self)) l.n ≡ first_from (bad l.words l.bytes (number l.self)) l.k (l.n - l.k))
