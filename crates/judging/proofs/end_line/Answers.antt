-- Where nothing is told it goes on.
use native.Mathlib.Omega.{arith}
use Prim.Native.Nat.{ℕ}
use mathlib.Core.List.{List}
use mathlib.Core.Path.{sym, ap, ◌∙◌}
use Rattle.stream.specs.Room.{over}
use lib.Seq.{length-take-le}
use lib.ListN.{length}
use Rattle.judging.proofs.Calls.{end_text_lem, ended_again, ended_final}
use Rattle.judging.proofs.end_line.Goals as goal

pub slice_bounds-put_round-end : goal.slice_bounds-put_round-end
slice_bounds-put_round-end c = sym (length-take-le _ _ c.requires.fact_1)

pub slice_bounds-put_round-end-2 : goal.slice_bounds-put_round-end-2
slice_bounds-put_round-end-2 c =
    let h = c.requires.fact_2 in
    let k = c.least-k.ensures in
    sym (length-take-le _ _ (omega arith))

pub returns-then-n-eq0 : goal.returns-then-n-eq0
returns-then-n-eq0 c =
    let j = c.args.judge in
    let t = end_text_lem j c.args.text.now c.args.held.now c.requires.fact_2 c.least-k.ensures in
    let r = c.put_round-n.ensures in
    record {
      heard = ended_again j c.args.used c.args.text.now c.args.held.now (sym (r.length ∙ ap (λ (l : List ℕ). length l) t) ∙ c.if-n-eq0.true) c.next-number.ensures;
      text = r.text ∙ ap (λ (l : List ℕ). over l c.args.room.now) t;
    }

pub returns : goal.returns
returns c =
    let j = c.args.judge in
    let t = end_text_lem j c.args.text.now c.args.held.now c.requires.fact_2 c.least-k.ensures in
    let r = c.put_round-n.ensures in
    record {
      heard = ended_final j c.args.used c.args.text.now c.args.held.now (λ z. c.if-n-eq0.false (r.length ∙ ap (λ (l : List ℕ). length l) t ∙ z)) (r.length ∙ ap (λ (l : List ℕ). length l) t);
      text = r.text ∙ ap (λ (l : List ℕ). over l c.args.room.now) t;
    }
