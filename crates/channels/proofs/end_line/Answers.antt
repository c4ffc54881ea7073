-- By whose the line is.
use mathlib.Core.Path.{sym}
use native.Mathlib.Omega.{arith}
use Rattle.channels.proofs.Lines.{ends_a, ends_b, ends_neither}
use Rattle.channels.proofs.end_line.Goals as goal

pub returns-in-A : goal.returns-in-A
returns-in-A c =
    let s = c.args in
    let m = ends_a s.words.now s.bytes.now s.channels s.line (sym c.in-A.ensures) in
    let e = c.call-said.ensures in
    let h = m.2 in
    record {
      ended = rw (m.0, e.said);
      text = rw m.1 e.text;
      fits = e.fits;
      paid = omega (arith, e.paid);
    }

pub returns-in-B : goal.returns-in-B
returns-in-B c =
    let s = c.args in
    let m = ends_b s.words.now s.bytes.now s.channels s.line (sym c.in-B.ensures) in
    let e = c.call-said-in-B.ensures in
    let h = m.2 in
    record {
      ended = rw (m.0, e.said);
      text = rw m.1 e.text;
      fits = e.fits;
      paid = omega (arith, e.paid);
    }

pub returns-in-Neither : goal.returns-in-Neither
returns-in-Neither c =
    let s = c.args in
    let e = c.end_neither.ensures in
    let m = ends_neither s.words.now s.bytes.now s.channels s.line (sym c.in-Neither.ensures) e.length e.a e.b in
    record {
      ended = m.0;
      text = rw m.1 e.text;
      fits = omega (arith, e.length);
      paid = omega (arith, e.length);
    }
