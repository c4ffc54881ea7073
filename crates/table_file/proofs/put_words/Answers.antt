-- By turn k the first k words are written.
use borrow.Author.Rules.{rules}
use mir.Syntax.{w16}
use mir.Facts.{to_z-of_z}
use borrow.Author.Rules.{sfits_of}
use Rattle.sequence.specs.Table.{written_none, written_more, written_end}
use Rattle.table_file.specs.File.{words, word_at}
use Rattle.table_file.proofs.put_words.Goals as goal

pub loop-k-init : goal.loop-k-init
loop-k-init c = (c.before.requires.fact_1, written_none (word_at c.before.args.file.now) 5963 c.before.args.words.now c.before.requires.fact_2)

pub loop-k-preserved : goal.loop-k-preserved
unfolding word_at
loop-k-preserved c =
    let t = c.before.before.before.before in
    rw (to_z-of_z {w = w16} {z = c.word.result} (sfits_of c.word.type_inv))
    (t.loop-k.invariant.0, written_more (word_at t.before.before.args.file.now) 5963 _ t.loop-k.k _ t.loop-k.invariant.1 (search rules) c.word.ensures)

pub returns : goal.returns
unfolding words
returns c = written_end (word_at c.before.before.before.args.file.now) 5963 _ c.before.loop-k.k c.before.loop-k.invariant.1 (search rules)
