-- The parts that the calls give are the definition's.
use Rattle.code_index.specs.Codebook as Codebook
use Rattle.sequence.specs.All.{and_left, and_right}
use Rattle.observation.specs.Frame.{half_fits, half, half_samples}
use Rattle.frame.proofs.half.Goals as goal

pub decode-half-requires : goal.decode-half-requires
unfolding half_fits
decode-half-requires c =
    let a = Codebook.digits_fit c.args.words.now c.args.p.code0 in
    let d = Codebook.digits_fit c.args.words.now c.args.p.code1 in
    record {
      fact_1 = c.requires.fact_1;
      fact_2 = c.requires.fact_2;
      fact_3 = and_left a d c.requires.fact_3;
      fact_4 = and_right a d c.requires.fact_3;
      fact_5 = c.requires.fact_4;
    }

pub returns : goal.returns
unfolding half half_samples
returns c = record {
  step = rw (c.decode-half.ensures.half, c.push-next.ensures, c.predicted-lsp.ensures, c.residual-residual.ensures);
  samples = rw (c.decode-half.ensures.samples, c.predicted-lsp.ensures, c.residual-residual.ensures);
}
