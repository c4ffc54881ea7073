-- The two parts.
use Rattle.writer.specs.Wrote.{wrote_more}
use Rattle.verdict.specs.Verdict.{sample_of}
use Rattle.verdict_text.proofs.put_place.Goals as goal

pub returns-clause-wrote : goal.returns-clause-wrote
unfolding sample_of
returns-clause-wrote c = wrote_more c.put.ensures c.put_decimal.ensures.wrote
