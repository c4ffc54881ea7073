-- No quantised frequency is negative, whatever was predicted.
use Rattle.spectral.specs.Quantised.{lsf_range}
use Rattle.observation.specs.Frame.{predicted}
use Rattle.frame.proofs.predicted.Goals as goal

pub lsf_to_lsp-requires : goal.lsf_to_lsp-requires
lsf_to_lsp-requires c = record {
  fact_1 = c.requires.fact_1.of_words.words_long;
  fact_2 = λ k h. rw c.quantise_lsf.ensures (lsf_range c.predict-lsf.result k h).0;
}

pub returns : goal.returns
unfolding predicted
returns c = rw (c.lsf_to_lsp.ensures, c.quantise_lsf.ensures, c.predict-lsf.ensures, c.from.ensures)
