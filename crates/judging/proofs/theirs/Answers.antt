-- Up to a newline bytes are taken in, and a line's end is judged.
use native.Mathlib.Omega.{arith}
use Prim.Native.Nat.{ℕ, ◌+◌}
use mathlib.Core.Path.{sym, ap, ◌∙◌}
use mathlib.Core.List.{List}
use lib.ListN.{length}
use lib.Seq.{length-take-le}
use borrow.Author.Tests.{eq-eqb, ne_eqb}
use Rattle.stream.specs.Room.{over, over_none, over_counts, counts}
use Rattle.verdict.specs.Round.{last}
use Rattle.verdict.specs.Length.{last_long}
use Rattle.judging.specs.declared.Heard.{Heard}
use Rattle.judging.specs.Talk.{end_text, ended, more, hear_theirs, theirs_held, theirs_text}
use Rattle.judging.proofs.Calls.{theirs_last, theirs_more, held_some, text_more, theirs_line, text_line, ended_said, end_long}
use borrow.Author.Rules.{rules}
use Rattle.judging.proofs.theirs.Goals as goal

pub returns-then-judge-eq0 : goal.returns-then-judge-eq0
unfolding theirs_held theirs_text
returns-then-judge-eq0 c =
    let a = c.args in
    let e = c.if-chunk-eq0.true in
    let z = c.if-judge-eq0.true in
    let p = c.put_last-n.ensures in
    let l = last_long a.judge.number a.judge.said in record {
      heard = theirs_last a.judge a.text.now a.held.now a.chunk.now e z p.length;
      held = rw (eq-eqb (length a.chunk.now) 0 e);
      text = rw (eq-eqb (length a.chunk.now) 0 e, eq-eqb a.judge.n 0 z) p.text;
      fits = over_counts (last a.judge.number a.judge.said) a.room.now _ p.text p.length (omega arith);
      used = search rules;
      said = c.requires.fact_1;
    }

pub returns-then-chunk-eq0 : goal.returns-then-chunk-eq0
unfolding hear_theirs theirs_held theirs_text ended
returns-then-chunk-eq0 c =
    let a = c.args in
    let e = c.if-chunk-eq0.true in
    let z = c.if-judge-eq0.false in
    let p = c.end_line.ensures in
    let l = end_long a.judge a.text.now a.held.now in record {
      heard = rw (eq-eqb (length a.chunk.now) 0 e, ne_eqb a.judge.n 0 z) p.heard;
      held = rw (eq-eqb (length a.chunk.now) 0 e);
      text = rw (eq-eqb (length a.chunk.now) 0 e, ne_eqb a.judge.n 0 z) p.text;
      fits = over_counts (end_text a.judge a.text.now a.held.now) a.room.now _ p.text (ap (λ (h : Heard). h.n) p.heard) (omega arith);
      used = rw p.heard (omega arith);
      said = let r = ended_said a.judge 0 a.text.now a.held.now in let x = c.requires.fact_1 in rw p.heard (omega arith);
    }

pub slice_bounds-push_all-end : goal.slice_bounds-push_all-end
slice_bounds-push_all-end c = sym (length-take-le _ _ c.line_end-k.ensures.upper_bound)

pub returns-then-k-chunk : goal.returns-then-k-chunk
returns-then-k-chunk c =
    let a = c.args in
    let z = c.if-chunk-eq0.false in
    let k = c.line_end-k.ensures.value in
    let p = c.push_all-n.ensures in record {
      heard = theirs_more a.judge a.text.now a.held.now a.chunk.now z k c.if-k-chunk.true p.count;
      held = p.text ∙ sym (held_some a.judge a.text.now a.held.now a.chunk.now z k);
      text = over_none a.room.now ∙ ap (λ (l : List ℕ). over l a.room.now) (sym (text_more a.judge a.text.now a.held.now a.chunk.now z k c.if-k-chunk.true));
      fits = counts 0 a.room.now (omega arith);
      used = c.line_end-k.ensures.upper_bound;
      said = c.requires.fact_1;
    }

pub returns : goal.returns
unfolding ended
returns c =
    let a = c.args in
    let z = c.if-chunk-eq0.false in
    let k = c.line_end-k.ensures.value in
    let q = c.push_all-n.ensures in
    let p = c.end_line-2.ensures in
    let n = c.push_all-n.result in
    let t = text_line a.judge a.text.now a.held.now a.chunk.now z k c.if-k-chunk.false q.count q.text in
    let l = end_long (more a.judge n) a.text.now c.push_all-n.new.held in record {
      heard = p.heard ∙ theirs_line a.judge a.text.now a.held.now a.chunk.now z k c.if-k-chunk.false q.count q.text;
      held = q.text ∙ sym (held_some a.judge a.text.now a.held.now a.chunk.now z k);
      text = p.text ∙ ap (λ (l : List ℕ). over l a.room.now) t;
      fits = over_counts (end_text (more a.judge n) a.text.now c.push_all-n.new.held) a.room.now _ p.text (ap (λ (h : Heard). h.n) p.heard) (omega arith);
      used = let g = c.line_end-k.ensures.upper_bound in let v = c.if-k-chunk.false in rw p.heard (omega arith);
      said = let r = ended_said (more a.judge n) (c.line_end-k.result + 1) a.text.now c.push_all-n.new.held in let x = c.requires.fact_1 in rw p.heard (omega arith);
    }
