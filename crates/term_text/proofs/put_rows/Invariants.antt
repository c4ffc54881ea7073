use Rattle.std.proofs.Common.{◌≤◌, ◌+◌, ◌*◌, take}
use Rattle.writer.specs.Wrote.{Wrote}
use Rattle.term_text.specs.Report.{rows}
use Rattle.term_text.proofs.put_rows.Given as goal

abbrev pub invariant-loop-i : goal.invariant-loop-i
invariant-loop-i l = record {
  wrote : Wrote l.initial.out l.out (rows l.name l.from (take l.i l.counts));
  fits : l.out.n ≤ l.initial.out.n + 53 * l.i;
}
