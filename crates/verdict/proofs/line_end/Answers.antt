-- The first newline ends the first piece.
use Rattle.std.proofs.Common.{◌≡◌, ◌≢◌, ◌∙◌, ◌+◌, ℕ, refl, sym, add-one, List, ◌∷◌, length}
use Rattle.std.proofs.lemmas.Iterator.{YieldsList-from_slice, IsFirst-from_position, index_from_first}
use Rattle.stream.specs.Lines.{pieces}
use borrow.Author.Rules.{rules}
use borrow.Author.Tests.{tests, eq-eqb, ne_eqb}
use Rattle.verdict.proofs.line_end.Goals as goal

before : List ℕ → ℕ
before text = length (pieces text).first

hit : (b : ℕ) (bs : List ℕ) → b ≡ 10 → before (b ∷ bs) ≡ 0
unfolding before pieces
hit b bs e = rw (eq-eqb b 10 e)

miss : (b : ℕ) (bs : List ℕ) → b ≢ 10 → before (b ∷ bs) ≡ before bs + 1
unfolding before pieces
miss b bs e = rw (ne_eqb b 10 e, add-one)

pub returns-clause-value : goal.returns-clause-value
unfolding before pieces
returns-clause-value c =
    let text = c.args.text.now in
    let first = IsFirst-from_position _ _ c.position.result (λ b. b ≡ 10) (λ b. b ≢ 10) c.position.ensures.ran (YieldsList-from_slice text c.iter.ensures.rest) (λ x q k. search (rules, tests)) (λ x q k. search (rules, tests)) in
    c.unwrap_or.ensures ∙ sym (index_from_first before (λ b. b ≡ 10) (λ b. b ≢ 10) refl hit miss text c.position.result first)
