-- One figure behind the other.
use Rattle.writer.specs.Wrote.{wrote_more}
use Rattle.term_text.specs.Report.{number_lines}
use Rattle.term_text.proofs.put_numbers.Goals as goal

pub returns-clause-wrote : goal.returns-clause-wrote
unfolding number_lines
returns-clause-wrote c =
    wrote_more c.put_figure.ensures.wrote (wrote_more c.put_figure-2.ensures.wrote (wrote_more c.put_figure-3.ensures.wrote c.put_figure-4.ensures.wrote))
