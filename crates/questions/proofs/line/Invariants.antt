use Rattle.std.proofs.Common.{◌≡◌, ◌+◌, drop}
use Rattle.questions.specs.Questions.{line, line_from}
use Rattle.questions.proofs.line.Given as goal

abbrev pub invariant-loop-i : goal.invariant-loop-i
invariant-loop-i l = line l.s l.from ≡ line_from l.r (drop l.i l.rest) (l.from + l.i)
