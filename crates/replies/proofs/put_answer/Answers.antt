-- A refusal's line, or the other.
use Rattle.replies.proofs.Steps.{put_line}
use Rattle.replies.specs.Promised.{put_as}
use Rattle.replies.specs.Replies.{refused_word, answered_yes, answered_no}
use native.Mathlib.Omega.{arith}
use Rattle.replies.proofs.put_answer.Goals as goal

pub returns-then-number-ne0 : goal.returns-then-number-ne0
returns-then-number-ne0 c =
    let e = c.from.ensures in
    put_as (answered_no c.args.number _ c.if-number-ne0.true) (put_line refused_word c.args.number c.args.room.now (omega arith) c.requires.fact_2 (rw e at c.put_figure.ensures.next) (rw e at c.put_figure.ensures.text))

pub returns : goal.returns
returns c =
    let e = c.from-2.ensures in
    put_as (answered_yes c.args.number _ c.if-number-ne0.false) (put_line c.args.name.now c.args.value c.args.room.now c.requires.fact_1 c.requires.fact_2 (rw e at c.put_figure-2.ensures.next) (rw e at c.put_figure-2.ensures.text))
