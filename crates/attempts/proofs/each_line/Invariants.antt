-- Where the lines to come lead, all of them lead.
use Rattle.std.proofs.Common.{length}
use Rattle.std.specs.Fn.{CalledAt}
use Rattle.attempts.specs.Attempted.{Attempted}
use Rattle.attempts.proofs.each_line.Given as goal

abbrev pub invariant-loop-line : goal.invariant-loop-line
invariant-loop-line g l = record {
  callable : goal.F-IsAlwaysCallable g l.attempt;
  rest : (last : _) → Attempted (λ f x q. CalledAt g.F.FnMut f x tt q) l.attempt l.rest last → Attempted (λ f x q. CalledAt g.F.FnMut f x tt q) l.fn.attempt l.fn.text last;
}

abbrev pub decreases-loop-line : goal.decreases-loop-line
decreases-loop-line g l = length l.rest
