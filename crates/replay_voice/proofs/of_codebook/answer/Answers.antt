-- What the decoder asks of an index is what was tested.
use mathlib.Core.Path.{sym, ◌∙◌}
use borrow.Author.Rules.{rules}
use Rattle.replay_voice.proofs.of_codebook.answer.Goals as goal

pub decode-requires : goal.decode-requires
decode-requires c = record {
  fact_1 = search rules;
  fact_2 = sym c.before.digits_fit.ensures ∙ c.if-digits_fit.true;
}
