-- One part behind the other, with a last line or without.
use Rattle.std.proofs.Common.{◌≡◌, true, false, ◌++◌, append-nil, rules}
use Rattle.tally.specs.declared.Tally.{Tally}
use Rattle.tally.specs.Figures.{full}
use Rattle.writer.specs.Wrote.{wrote_more}
use Rattle.term_text.specs.Report.{number_lines, subframe_lines, stopped, report}
use Rattle.term_text.proofs.put_all.Goals as goal

-- the report by whether reading stopped
by_full : (t : Tally) → full t ≡ true → report t ≡ number_lines t ++ (subframe_lines t.subframes t.clipped ++ stopped)
unfolding report
by_full t e = rw e

by_left : (t : Tally) → full t ≡ false → report t ≡ number_lines t ++ subframe_lines t.subframes t.clipped
unfolding report
by_left t e = rw (e, append-nil)

pub returns-then-not-full-clause-wrote : goal.returns-then-not-full-clause-wrote
returns-then-not-full-clause-wrote c =
    let e : full c.args.tally ≡ false = search rules in
    rw (by_left c.args.tally e) (wrote_more c.put_numbers.ensures.wrote c.put_subframes.ensures.wrote)

pub returns-clause-wrote : goal.returns-clause-wrote
returns-clause-wrote c =
    let e : full c.args.tally ≡ true = search rules in
    rw (by_full c.args.tally e) (wrote_more c.put_numbers.ensures.wrote (wrote_more c.put_subframes.ensures.wrote c.put.ensures))
