-- The tests are those of the definition, in its order.
use borrow.Author.Tests.{eq-eqb, ne_eqb}
use Rattle.tables.specs.Tables as Tables
use Rattle.rules.proofs.Rules.{any_told}
use Rattle.rules.proofs.check.Goals.{then-words-ne-WORDS-via-then-words-ne-WORDS, then-words-ne-WORDS-via-else-words-ne-WORDS+then-bytes-ne-BYTES}
use Rattle.rules.proofs.check.Goals as goal

pub returns-then-words-ne-WORDS : goal.returns-then-words-ne-WORDS
unfolding Tables.check
returns-then-words-ne-WORDS c =
    elim c.then-words-ne-WORDS.branch [
      | then-words-ne-WORDS-via-then-words-ne-WORDS w ↦ rw (ne_eqb _ _ w.if-words-ne-WORDS.true)
      | then-words-ne-WORDS-via-else-words-ne-WORDS+then-bytes-ne-BYTES w ↦ rw (eq-eqb _ _ w.if-words-ne-WORDS.false, ne_eqb _ _ w.if-bytes-ne-BYTES.true)
    ]

pub returns-then-any_broken : goal.returns-then-any_broken
unfolding Tables.check
returns-then-any_broken c = rw (eq-eqb _ _ c.if-words-ne-WORDS.false, eq-eqb _ _ c.if-bytes-ne-BYTES.false, ← (any_told c.args.words.now c.args.bytes.now), ← c.any_broken.ensures, c.if-any_broken.true)

pub returns : goal.returns
unfolding Tables.check
returns c = rw (eq-eqb _ _ c.if-words-ne-WORDS.false, eq-eqb _ _ c.if-bytes-ne-BYTES.false, ← (any_told c.args.words.now c.args.bytes.now), ← c.any_broken.ensures, c.if-any_broken.false)
