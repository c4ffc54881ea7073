-- The five parts.
use Rattle.writer.specs.Wrote.{wrote_more}
use Rattle.verdict.specs.Verdict.{says, sample}
use Rattle.verdict_text.proofs.put_sample.Goals as goal

pub returns-clause-wrote : goal.returns-clause-wrote
unfolding says sample
returns-clause-wrote c =
    wrote_more c.put_head.ensures.wrote (wrote_more (wrote_more c.put_place.ensures.wrote (wrote_more c.put_signed.ensures.wrote c.put_signed-2.ensures.wrote)) c.put.ensures)
