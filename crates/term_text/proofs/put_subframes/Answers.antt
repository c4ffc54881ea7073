-- One part behind the other.
use Rattle.writer.specs.Wrote.{wrote_more}
use Rattle.term_text.specs.Report.{subframe_lines}
use Rattle.term_text.proofs.put_subframes.Goals as goal

pub returns-clause-wrote : goal.returns-clause-wrote
unfolding subframe_lines
returns-clause-wrote c =
    wrote_more c.put_rows.ensures.wrote (wrote_more c.put_rows-2.ensures.wrote (wrote_more c.put_rows-3.ensures.wrote c.put_last.ensures.wrote))
