-- The three parts.
use Rattle.stream.specs.Decimal.{figure}
use Rattle.writer.specs.Wrote.{wrote_more}
use Rattle.writer.proofs.Writer.put_figure.Goals as goal

pub returns-clause-wrote : goal.returns-clause-wrote
unfolding figure
returns-clause-wrote c = wrote_more c.put.ensures (wrote_more c.put_decimal.ensures.wrote c.put-2.ensures)
