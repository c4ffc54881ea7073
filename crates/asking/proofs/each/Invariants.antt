-- Where the questions to come lead, all of them lead.
use Rattle.std.proofs.Common.{◌-◌, ◌≤◌, length}
use Rattle.asking.specs.Asked.{Asked}
use Rattle.asking.proofs.each.Given as goal

abbrev pub invariant-loop-from : goal.invariant-loop-from
invariant-loop-from g l = record {
  callable : goal.F-IsAlwaysCallable g l.answer;
  in_text : l.from ≤ length l.text;
  rest : (last : _) → Asked (goal.F-step g) l.text l.answer l.from last → Asked (goal.F-step g) l.text l.fn.answer 0 last;
}

abbrev pub decreases-loop-from : goal.decreases-loop-from
decreases-loop-from g l = length l.text - l.from
