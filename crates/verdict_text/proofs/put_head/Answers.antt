-- The two parts.
use Rattle.writer.specs.Wrote.{wrote_more}
use Rattle.verdict.specs.Verdict.{head}
use Rattle.verdict_text.proofs.put_head.Goals as goal

pub returns-clause-wrote : goal.returns-clause-wrote
unfolding head
returns-clause-wrote c = wrote_more c.put.ensures c.put_decimal.ensures.wrote
