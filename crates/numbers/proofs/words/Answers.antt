-- A word more is written.
use Rattle.std.proofs.Common.{◌≡◌, length, rules}
use mir.Syntax.{w16}
use mir.Facts.{to_z-of_z}
use borrow.Author.Rules.{sfits_of}
use Rattle.sequence.specs.Table.{written_more}
use Rattle.questions.specs.Questions.{word_at}
use Rattle.numbers.proofs.words.Goals as goal

pub loop-i-preserved : goal.loop-i-preserved
unfolding word_at
loop-i-preserved c =
    let f = word_at c.args.n c.args.from in
    let e : c.low.result ≡ f c.loop-i.i = search rules in
    rw (to_z-of_z {w = w16} {z = c.low.result} (sfits_of c.low.type_inv)) (written_more f (length c.args.out.now) c.loop-i.out c.loop-i.i c.low.result c.loop-i.invariant (search rules) e)
