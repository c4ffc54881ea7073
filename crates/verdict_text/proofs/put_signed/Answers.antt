-- The two parts, by the sign.
use Rattle.std.proofs.Common.{lt-ltb, le-ltb}
use Rattle.writer.specs.Wrote.{wrote_more}
use Rattle.verdict.specs.Verdict.{spaced}
use Rattle.verdict_text.proofs.put_signed.Goals as goal

pub returns-then-v-lt32768-clause-wrote : goal.returns-then-v-lt32768-clause-wrote
unfolding spaced
returns-then-v-lt32768-clause-wrote c = rw (lt-ltb c.args.v 32768 c.if-v-lt32768.true, ← c.from.ensures) (wrote_more c.put.ensures c.put_decimal.ensures.wrote)

pub returns-clause-wrote : goal.returns-clause-wrote
unfolding spaced
returns-clause-wrote c = rw (le-ltb c.args.v 32768 c.if-v-lt32768.false, ← c.saturating_sub.ensures, ← c.from-2.ensures) (wrote_more c.put-2.ensures c.put_decimal-2.ensures.wrote)
