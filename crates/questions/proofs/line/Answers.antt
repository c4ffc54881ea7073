-- What is left to read, from where the reading stands, is the whole line.
use Rattle.std.proofs.Common.{◌≡◌, ◌+◌, ◌-◌, ℕ, List, ap, add-zero, arith, length, length-drop, drop, take, take_all, eq-eqb, ne_eqb}
use Rattle.questions.specs.Questions.{line, none, line_from, line_more, line_ended_lem, line_none}
use Rattle.questions.proofs.line.Goals as goal

-- `&s[from..]`
abbrev rest : List ℕ → ℕ → List ℕ
rest s from = take (length s - from) (drop from s)

rest_is : (s : List ℕ) (from : ℕ) → rest s from ≡ drop from s
rest_is s from = let d = length-drop from s in take_all (length s - from) (drop from s) (omega arith)

begun : (s : List ℕ) (from : ℕ) → line s from ≡ line_from none (drop 0 (rest s from)) (from + 0)
unfolding line
begun s from = rw (add-zero, rest_is s from)

pub loop-i-init : goal.loop-i-init
unfolding none
loop-i-init c = begun c.args.s.now c.args.from

pub returns-then-b-eq10-clause-value : goal.returns-then-b-eq10-clause-value
returns-then-b-eq10-clause-value c =
    let a = c.args in
    let t = c.loop-i in
    rw (c.asked.ensures, c.step.ensures, t.invariant, line_ended_lem t.r (rest a.s.now a.from) a.from t.i c.loop-i-test.true (eq-eqb _ 10 c.if-b-eq10.true))

pub loop-i-preserved : goal.loop-i-preserved
loop-i-preserved c =
    let a = c.args in
    let t = c.loop-i in
    rw (c.step.ensures, t.invariant, line_more t.r (rest a.s.now a.from) a.from t.i c.loop-i-test.true (ne_eqb _ 10 c.if-b-eq10.false))

pub returns-clause-value : goal.returns-clause-value
returns-clause-value c =
    let a = c.args in
    let t = c.loop-i in
    let l = length-drop a.from a.s.now in
    let e : a.from + t.i ≡ length a.s.now = omega (arith, ap (λ (x : List ℕ). length x) (rest_is a.s.now a.from)) in
    rw (c.asked-2.ensures, t.invariant, line_none t.r (rest a.s.now a.from) a.from t.i c.loop-i-test.false, e)
