-- A question is asked, and the rest from where it ends; at the text's end none is left.
use Rattle.std.proofs.Common.{◌≡◌, refl, of_calls, arith}
use Rattle.std.specs.Prelude.{⊤}
use Rattle.asking.specs.Asked.{asked, ended}
use Rattle.asking.proofs.each.Goals as goal

nothing : (u : ⊤) → u ≡ tt
nothing tt = refl

pub loop-from-preserved : goal.loop-from-preserved
loop-from-preserved g c =
    let t = c.loop-from in
    let q = c.line-q.ensures in
    record {
      callable = search of_calls;
      in_text = q.from_lt_next.1;
      rest = λ last more. t.invariant.rest last (asked {f = t.answer} {after = c.answer.new.self} {last = last} {from = t.from} (omega (arith, c.loop-from-test.true)) (rw (q.value, nothing c.answer.result) at c.answer.ensures) (rw q.value at more));
    }

pub returns : goal.returns
returns g c = let t = c.loop-from in (t.answer, t.invariant.rest _ (ended {f = t.answer} {from = t.from} c.loop-from-test.false))
