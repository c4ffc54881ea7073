-- The place, and what both spell there.
use Rattle.verdict.specs.Verdict.{sample_at}
use Rattle.verdict_text.proofs.put_lowest.Goals as goal

pub returns-clause-wrote : goal.returns-clause-wrote
unfolding sample_at
returns-clause-wrote c = rw (← c.place-p.ensures.place, ← c.spelled-a.ensures, ← c.spelled-b.ensures) c.put_sample.ensures.wrote
