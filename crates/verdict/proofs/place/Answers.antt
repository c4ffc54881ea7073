-- The first place that differs.
use Rattle.std.proofs.Common.{◌≡◌, ◌∙◌, true, false}
use Rattle.std.proofs.lemmas.Iterator.{first_from_Range}
use Rattle.verdict.specs.Verdict.{differs, place}
use Rattle.verdict.proofs.Ends.{first_found}
use borrow.Author.Rules.{rules}
use Rattle.verdict.proofs.place.Goals as goal

pub returns-clause-place : goal.returns-clause-place
unfolding place differs
returns-clause-place c =
    let f = differs c.args.ours.now c.args.theirs.now in
    c.unwrap_or.ensures
    ∙ first_found f 319 c.find.result (first_from_Range _ _ _ _ (λ x. f x ≡ true) (λ x. f x ≡ false) c.find.ensures.ran (λ x q k. search rules) (λ x q k. search rules))
