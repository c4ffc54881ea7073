-- The report of the tally where the input ends.
use Rattle.heard.specs.Start.{part_bytes}
use Rattle.term.proofs.report.Goals as goal

pub returns : goal.returns
returns c =
    let s = c.before.before.before.before.before.before.before.before in
    let file = s.args.file.now in
    let e = rw (s.requires.fact_1.are, part_bytes file s.requires.fact_1.long) at c.before.before.before.before.end_tally-tally.ensures in
    rw e at c.before.before.put_report.ensures
