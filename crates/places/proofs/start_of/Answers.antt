-- The first line is `+`, or the frames begin with it.
use borrow.Author.Rules.{rules}
use mathlib.Core.Path.{sym}
use native.Mathlib.Omega.{arith}
use Rattle.places.specs.Places.{start_long, start_other, start_plus}
use Rattle.places.proofs.start_of.Goals as goal
use Rattle.places.proofs.start_of.Goals.{then-e-ne1-via-then-e-ne1, then-e-ne1-via-else-e-ne1+then-recording-ne43}

pub returns-then-e-ne1 : goal.returns-then-e-ne1
returns-then-e-ne1 c =
    let a = c.args in
    let e = c.line_end-e.ensures.end in
    elim c.then-e-ne1.branch [
      | then-e-ne1-via-then-e-ne1 w ↦ sym (start_long a.recording.now (λ z. w.if-e-ne1.true (omega arith)))
      | then-e-ne1-via-else-e-ne1+then-recording-ne43 w ↦
          let n = w.if-e-ne1.false in
          sym (start_other a.recording.now (omega arith) w.if-recording-ne43.true)
    ]

pub bounds-recording-0 : goal.bounds-recording-0
bounds-recording-0 c = let e = c.line_end-e.ensures.within in search rules

pub returns : goal.returns
returns c =
    let a = c.args in
    let e = c.line_end-e.ensures.end in
    let h = start_plus a.recording.now (omega arith) c.if-recording-ne43.false in
    omega (arith, h, c.behind.ensures)
