-- The library's place is the definition's.
use borrow.Author.Rules.{rules}
use borrow.Author.Tests.{tests, eq-eqb, ne_eqb}
use Rattle.std.specs.List.{position_or_len}
use Rattle.std.proofs.Common.{◌≡◌, ◌≢◌, ◌∙◌, ◌+◌, ℕ, refl, sym, arith, eqb, List, ◌∷◌}
use Rattle.std.proofs.lemmas.Iterator.{YieldsList-from_slice, IsFirst-from_position, index_from_first}
use Rattle.stream.specs.Room.{counts}
use Rattle.commands.specs.Commands.{blank_is, blank_le}
use Rattle.commands.proofs.blank.Goals as goal

before : List ℕ → ℕ
before text = position_or_len (λ b. eqb b 32) text

hit : (b : ℕ) (bs : List ℕ) → b ≡ 32 → before (b ∷ bs) ≡ 0
unfolding before
hit b bs e = rw (eq-eqb b 32 e)

miss : (b : ℕ) (bs : List ℕ) → b ≢ 32 → before (b ∷ bs) ≡ before bs + 1
unfolding before
miss b bs e = rw (ne_eqb b 32 e) (omega arith)

pub returns : goal.returns
unfolding before
returns c =
    let text = c.args.text.now in
    let first = IsFirst-from_position _ _ c.position.result (λ b. b ≡ 32) (λ b. b ≢ 32) c.position.ensures.ran (YieldsList-from_slice text c.iter.ensures.rest) (λ x q k. search (rules, tests)) (λ x q k. search (rules, tests)) in
    let e = c.unwrap_or.ensures ∙ sym (index_from_first before (λ b. b ≡ 32) (λ b. b ≢ 32) refl hit miss text c.position.result first) ∙ blank_is text in
    let h = blank_le text in
    (e, counts _ _ (omega arith))
