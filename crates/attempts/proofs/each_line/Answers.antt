-- A line is attempted, and then what is behind it; what has no mark is the last line, or none.
use Rattle.std.proofs.Common.{◌≡◌, ◌<◌, [], length, refl, of_calls, arith}
use Rattle.std.proofs.lemmas.Grind.{common_steps}
use Rattle.std.specs.Prelude.{⊤}
use Rattle.attempts.specs.Attempted.{line, ended, unended}
use Rattle.attempts.proofs.each_line.Goals as goal

nothing : (u : ⊤) → u ≡ tt
nothing tt = refl

pub loop-line-preserved : goal.loop-line-preserved
loop-line-preserved g c =
    let t = c.loop-line in
    let e = nothing c.attempt.result in
    let q = c.in-Some.ensures in
    let whole = q.0 in
    record {
      callable = search of_calls;
      rest = λ last more. t.invariant.rest last (rw whole (line {f = t.attempt} {after = c.attempt.new.self} {last = last} {here = c.in-Some.line.now} {rest = c.in-Some.behind.now} q.1 (record { shown = c.in-Some.line; shows = refl; called = rw e at c.attempt.ensures }) more));
    }

pub returns-then-not-is_empty : goal.returns-then-not-is_empty
returns-then-not-is_empty g c =
    let t = c.loop-line in
    let call = c.attempt-then-not-is_empty in
    let e = nothing call.result in
    let some : 0 < length t.rest.now = let a = c.is_empty.ensures in let b = c.if-not-is_empty.true in grind (arith, common_steps) in
    (call.new.self, t.invariant.rest _ (unended {f = t.attempt} {after = call.new.self} {here = t.rest.now} some c.in_default.ensures (record { shown = t.rest; shows = refl; called = rw e at call.ensures }) ended))

pub returns : goal.returns
returns g c =
    let t = c.loop-line in
    let none : t.rest.now ≡ [] = let a = c.is_empty.ensures in let b = c.if-not-is_empty.false in grind (arith, common_steps) in
    (t.attempt, t.invariant.rest _ (rw none (ended {f = t.attempt})))
