-- A float more is written.
use Rattle.std.proofs.Common.{◌≡◌, length, rules}
use Rattle.sequence.specs.Table.{written_more}
use Rattle.questions.specs.Questions.{float_at}
use Rattle.numbers.proofs.floats_from.Goals as goal

pub loop-i-preserved : goal.loop-i-preserved
unfolding float_at
loop-i-preserved c =
    let f = float_at c.args.n c.args.from in
    let e : c.f32_from_bits_with_nan.result ≡ f c.loop-i.i = search rules in
    written_more f (length c.args.out.now) c.loop-i.out c.loop-i.i c.f32_from_bits_with_nan.result c.loop-i.invariant (search rules) e
