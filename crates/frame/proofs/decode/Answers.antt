-- What is reported has its names.
use Rattle.observation.specs.Frame.{decode, halves}
use Rattle.frame.proofs.Named.{named}
use Rattle.frame.proofs.decode.Goals as goal

pub report-requires : goal.report-requires
unfolding halves
report-requires c = record {
  fact_1 = c.requires.fact_1.of_bytes.bytes_long;
  fact_2 = rw c.halves.ensures.halves (named _ _ _ _ _);
  fact_3 = rw c.halves.ensures.halves (named _ _ _ _ _);
}

pub returns : goal.returns
unfolding decode
returns c = record {
  decoded = rw (c.report.ensures, c.halves.ensures.halves);
  samples = c.halves.ensures.samples;
}
