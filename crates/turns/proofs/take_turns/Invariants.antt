-- What the turns to come lead to, all of them lead to.
use Rattle.turns.specs.Turns.{TurnsTo}
use Rattle.turns.proofs.take_turns.Given as goal

abbrev pub invariant-loop : goal.invariant-loop
invariant-loop g l = record {
  callable : goal.F-IsAlwaysCallable g l.turn;
  rest : (left : _) → TurnsTo (goal.F-step g) l.turn l.left left → TurnsTo (goal.F-step g) l.fn.turn l.fn.start left;
}
