-- The length decides first, then the set.
use borrow.Author.Tests.{eq-eqb, ne_eqb}
use mathlib.Core.Path.{refl, ap, ◌∙◌}
use Prim.Native.Nat.{◌-◌}
use lib.ListN.{length, drop, length-drop}
use lib.Seq.{take_all}
use Rattle.tables.specs.Tables.{check}
use Rattle.table_file.specs.File.{words, check_file, words_or}
use native.Mathlib.Omega.{arith}
use Rattle.table_file.proofs.check_file.Goals as goal

pub returns-then-file-ne15834 : goal.returns-then-file-ne15834
unfolding check_file words_or
returns-then-file-ne15834 c = rw (ne_eqb _ 15834 c.if-file-ne15834.true) (record { number = refl; words = refl })

pub returns : goal.returns
unfolding check_file words_or
returns c =
    let file = c.args.file.now in
    let w = c.put_words.ensures in
    rw (eq-eqb (length file) 15834 c.if-file-ne15834.false) (record {
      number = c.check.ensures ∙ rw w (ap (check (words file)) (take_all (length file - 11926) (drop 11926 file) (omega (arith, length-drop 11926 file))));
      words = w;
    })
