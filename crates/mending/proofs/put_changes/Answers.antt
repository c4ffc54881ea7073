-- The five parts, or nothing where none of the three happened.
use Rattle.std.proofs.Common.{◌≡◌, ◌||◌, true, false, refl, arith}
use Rattle.std.proofs.lemmas.Grind.{common_steps}
use borrow.Author.Rules.{rules}
use Rattle.stream.specs.Room.{over_none}
use Rattle.writer.specs.Wrote.{wrote_more, wrote_over}
use Rattle.mending.specs.Texts.{none_said, some_said, five_long}
use Rattle.mending.proofs.put_changes.Goals as goal

pub returns-then-not-changed : goal.returns-then-not-changed
returns-then-not-changed c =
    let f = c.args.found in
    let e : f.returns || (f.blanks || f.letters) ≡ false = grind (arith, common_steps) in
    rw (none_said f.returns f.blanks f.letters c.args.number e) (record { length = refl; text = over_none _ })

pub returns : goal.returns
returns c =
    let f = c.args.found in
    let q : f.returns || (f.blanks || f.letters) ≡ true = grind (arith, common_steps) in
    let w = wrote_more c.put_decimal.ensures.wrote (wrote_more c.put_word.ensures.wrote (wrote_more c.put_word-2.ensures.wrote (wrote_more c.put_word-3.ensures.wrote c.put.ensures))) in
    let h = five_long c.args.number f.returns f.blanks f.letters in
    let e = wrote_over w refl (omega (arith, c.requires)) in
    rw (some_said f.returns f.blanks f.letters c.args.number q) (record { length = e.0; text = search (rules, e.1) })
