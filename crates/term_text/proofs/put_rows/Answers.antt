-- A row more.
use Rattle.std.proofs.Common.{arith}
use Rattle.writer.specs.Wrote.{wrote_none, wrote_more}
use Rattle.term_text.specs.Report.{rows}
use Rattle.term_text.proofs.Rows.{rows_more}
use Rattle.term_text.proofs.put_rows.Goals as goal

pub loop-i-init : goal.loop-i-init
unfolding rows
loop-i-init c = record { wrote = wrote_none c.args.out.now; fits = omega arith }

pub loop-i-preserved : goal.loop-i-preserved
loop-i-preserved c =
    let a = c.args in
    let n = c.requires.name in
    record {
      wrote = rw (rows_more a.name.now a.from a.counts.now c.loop-i.i c.loop-i-test.true) (wrote_more c.loop-i.invariant.wrote c.put_row.ensures.wrote);
      fits = omega (arith, c.loop-i.invariant.fits, c.put_row.ensures.fits);
    }
