-- Name, number and count, one behind the other.
use Rattle.writer.specs.Wrote.{wrote_more}
use Rattle.term_text.specs.Report.{row}
use Rattle.term_text.proofs.put_row.Goals as goal

pub returns-clause-wrote : goal.returns-clause-wrote
unfolding row
returns-clause-wrote c = wrote_more c.put.ensures (wrote_more c.put_decimal.ensures.wrote c.put_figure.ensures.wrote)
