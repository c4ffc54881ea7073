-- The first newline of what is left ends the line.
use Rattle.std.proofs.Common.{◌≡◌, ◌≢◌, ◌∙◌, ◌+◌, ℕ, ◌-◌, sym, ap, add-one, List, ◌∷◌, length, take, drop, take_all, length-drop}
use Rattle.std.proofs.lemmas.Iterator.{YieldsList-from_slice, IsFirst-from_position, index_from_first}
use native.Mathlib.Omega.{arith}
use borrow.Author.Rules.{rules}
use borrow.Author.Tests.{tests}
use Rattle.places.specs.Places.{line_end, end_nil, end_newline, end_other}
use Rattle.places.proofs.line_end.Goals as goal

miss : (b : ℕ) (bs : List ℕ) → b ≢ 10 → line_end (b ∷ bs) ≡ line_end bs + 1
miss b bs e = end_other b bs e ∙ sym (add-one _)

pub returns-clause-end : goal.returns-clause-end
returns-clause-end c =
    let l = c.args.recording.now in
    let rest = take (length l - c.args.a) (drop c.args.a l) in
    let all = take_all (length l - c.args.a) (drop c.args.a l) (rw (length-drop c.args.a l) (omega arith)) in
    let first = IsFirst-from_position _ _ c.position.result (λ b. b ≡ 10) (λ b. b ≢ 10) c.position.ensures.ran (YieldsList-from_slice rest c.iter.ensures.rest) (λ x q k. search (rules, tests)) (λ x q k. search (rules, tests)) in
    let e = c.unwrap_or.ensures ∙ sym (index_from_first line_end (λ b. b ≡ 10) (λ b. b ≢ 10) end_nil end_newline miss rest c.position.result first) ∙ ap line_end all in
    omega (arith, e)
