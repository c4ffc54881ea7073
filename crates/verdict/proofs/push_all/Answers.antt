-- By place i its bytes are in.
use Rattle.std.proofs.Common.{ℕ, refl, sym, ap, ◌∙◌, List, length, get_or, take_all}
use Rattle.stream.specs.Machine.{fed_all, fed_more}
use Rattle.verdict.specs.Kept.{Kept, kept, pushed, pushed_long, kept_is}
use Rattle.verdict.proofs.push_all.Goals as goal

pub loop-b-init : goal.loop-b-init
unfolding fed_all
loop-b-init c = (c.requires, refl)

pub loop-b-preserved : goal.loop-b-preserved
loop-b-preserved c =
    let a = c.args in
    let l = c.loop-b in
    let p = c.push-n.ensures in
    let b = get_or a.part.now l.b-index 0 in (
      ap (λ (l : List ℕ). length l) p.text ∙ pushed_long (kept l.held l.n) b ∙ l.invariant.0,
      kept_is (pushed (kept l.held l.n) b) p.text p.count ∙ ap (λ (k : Kept). pushed k b) l.invariant.1 ∙ sym (fed_more pushed (kept a.held.now a.start) a.part.now l.b-index c.loop-b-test.true),
    )

pub returns : goal.returns
returns c =
    let a = c.args in
    let q = c.loop-b.invariant.1 ∙ ap (fed_all pushed (kept a.held.now a.start)) (take_all c.loop-b.b-index a.part.now c.loop-b-test.false) in
    record {
      count = ap (λ (k : Kept). k.n) q;
      text = ap (λ (k : Kept). k.held) q;
    }
