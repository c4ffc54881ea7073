-- One figure behind the other.
use Rattle.writer.specs.Wrote.{wrote_more}
use Rattle.term_text.specs.Report.{gain_lines}
use Rattle.term_text.proofs.put_gains.Goals as goal

pub returns-clause-wrote : goal.returns-clause-wrote
unfolding gain_lines
returns-clause-wrote c = wrote_more c.put_figure.ensures.wrote c.put_figure-2.ensures.wrote
