-- What the recorder answers up to a newline; nothing is the end.
use native.Mathlib.Omega.{arith}
use mathlib.Core.Path.{sym, ◌∙◌}
use lib.ListN.{length-take}
use lib.Seq.{length-take-le}
use Rattle.judging.specs.Talk.{ours_text}
use Rattle.beside.proofs.Calls.{ours_none, ours_some}
use borrow.Author.Rules.{rules}
use Rattle.beside.proofs.ours.Goals as goal

pub slice_bounds-answer-end : goal.slice_bounds-answer-end
slice_bounds-answer-end c = sym (length-take-le _ _ c.up_to-k.ensures.upper_bound)

pub answer-fed-requires : goal.answer-fed-requires
answer-fed-requires c =
    let u = c.up_to-k in
    let l = length-take u.result c.args.chunk.now in
    let p = c.requires.fact_2 in
    let q = u.ensures.upper_bound in
    record {
      fact_1 = c.requires.fact_1;
      fact_2 = omega arith;
    }

pub returns-then-k-eq0 : goal.returns-then-k-eq0
unfolding ours_text
returns-then-k-eq0 c =
    let s = c.args in
    let u = c.up_to-k.ensures.value in
    let a = c.answer-fed.ensures in
    record {
      heard = ours_none s.file.now s.judge s.chunk.now u c.if-k-eq0.true a.fed c.closed-over.ensures;
      text = a.text ∙ rw u;
      fits = a.fits.0;
      used = search rules;
    }

pub returns : goal.returns
unfolding ours_text
returns c =
    let s = c.args in
    let u = c.up_to-k.ensures.value in
    let a = c.answer-fed.ensures in
    record {
      heard = ours_some s.file.now s.judge s.chunk.now u c.if-k-eq0.false a.fed;
      text = a.text ∙ rw u;
      fits = a.fits.0;
      used = c.up_to-k.ensures.upper_bound;
    }
