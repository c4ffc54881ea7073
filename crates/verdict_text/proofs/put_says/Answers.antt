-- The three parts.
use Rattle.writer.specs.Wrote.{wrote_more}
use Rattle.verdict.specs.Verdict.{says}
use Rattle.verdict_text.proofs.put_says.Goals as goal

pub returns-clause-wrote : goal.returns-clause-wrote
unfolding says
returns-clause-wrote c = wrote_more c.put_head.ensures.wrote (wrote_more c.put.ensures c.put-2.ensures)
