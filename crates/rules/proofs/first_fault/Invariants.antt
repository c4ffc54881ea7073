use Rattle.std.specs.Prelude.{◌≡◌, ◌≤◌, ◌-◌, ◌+◌}
use Rattle.sequence.specs.First.{first, first_from}
use Rattle.tables.specs.Tables as Tables
use Rattle.rules.proofs.first_fault.Given as goal

abbrev pub invariant-loop-rule : goal.invariant-loop-rule
invariant-loop-rule l =
    (l.rule-index ≤ 6) × (first (Tables.broken l.words l.bytes) 7 ≡ first_from (Tables.broken l.words l.bytes) (l.rule-index + 1) (7 - (l.rule-index + 1)))
