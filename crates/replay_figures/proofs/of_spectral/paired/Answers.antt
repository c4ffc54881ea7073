-- What is quantised is not negative.
use borrow.Author.Rules.{rules}
use Rattle.spectral.specs.Quantised.{lsf_range}
use Rattle.replay_figures.proofs.of_spectral.paired.Goals as goal

pub lsf_to_lsp-requires : goal.lsf_to_lsp-requires
lsf_to_lsp-requires c = record {
  fact_1 = search rules;
  fact_2 = λ k h. rw c.quantise_lsf.ensures (lsf_range _ k h).0;
}
