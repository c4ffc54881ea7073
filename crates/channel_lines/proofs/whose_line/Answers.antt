-- The tests are the definition's.
use Rattle.std.proofs.Common.{arith}
use borrow.Author.Tests.{eq-eqb, ne_eqb}
use Rattle.channel_lines.proofs.Lines.{short, long}
use Rattle.channel_lines.proofs.whose_line.Goals as goal

pub returns-then-line-lt2 : goal.returns-then-line-lt2
returns-then-line-lt2 c = short c.args.line c.if-line-lt2.true

pub returns-then-line-ne32 : goal.returns-then-line-ne32
returns-then-line-ne32 c =
    let l = c.args.line in
    rw (long l c.if-line-lt2.false, ne_eqb l.second 32 c.if-line-ne32.true)

pub returns-in-97 : goal.returns-in-97
returns-in-97 c =
    let l = c.args.line in
    rw (long l c.if-line-lt2.false, eq-eqb l.second 32 c.if-line-ne32.false, c.in-97.is)

pub returns-in-98 : goal.returns-in-98
returns-in-98 c =
    let l = c.args.line in
    rw (long l c.if-line-lt2.false, eq-eqb l.second 32 c.if-line-ne32.false, c.in-98.is)

pub returns-in_default : goal.returns-in_default
returns-in_default c =
    let l = c.args.line in
    rw (long l c.if-line-lt2.false, eq-eqb l.second 32 c.if-line-ne32.false, ne_eqb l.first 97 (omega arith), ne_eqb l.first 98 (omega arith))
