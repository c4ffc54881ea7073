-- One part behind the other.
use Rattle.writer.specs.Wrote.{wrote_more}
use Rattle.term_text.specs.Report.{last_lines}
use Rattle.term_text.proofs.put_last.Goals as goal

pub returns-clause-wrote : goal.returns-clause-wrote
unfolding last_lines
returns-clause-wrote c = wrote_more c.put_clipped.ensures.wrote c.put_gains.ensures.wrote
