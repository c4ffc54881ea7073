-- Each half has its part of the samples, and the second starts from what the first leaves.
use mathlib.Core.Path.{sym, ◌∙◌}
use Rattle.sequence.specs.All.{and_left, and_right}
use Rattle.observation.specs.Frame.{half_fits, digits_fit, halves, samples}
use Rattle.observation.specs.Parts.{first_part, second_part, both_parts}
use Rattle.frame.proofs.halves.Goals as goal

pub slice_bounds-half-end-2 : goal.slice_bounds-half-end-2
slice_bounds-half-end-2 c = sym (first_part 160 c.args.samples.now c.requires.fact_5)

pub half-first-requires : goal.half-first-requires
unfolding digits_fit
half-first-requires c =
    let w = c.args.words.now in
    let f = c.args.f in
    record {
      fact_1 = c.requires.fact_1;
      fact_2 = c.requires.fact_2;
      fact_3 = and_left (half_fits w f.first) (half_fits w f.second) c.requires.fact_4;
      fact_4 = first_part 160 c.args.samples.now c.requires.fact_5;
    }

pub half-second-requires : goal.half-second-requires
unfolding digits_fit
half-second-requires c =
    let w = c.args.words.now in
    let f = c.args.f in
    record {
      fact_1 = c.requires.fact_1;
      fact_2 = c.requires.fact_3;
      fact_3 = and_right (half_fits w f.first) (half_fits w f.second) c.requires.fact_4;
      fact_4 = second_part 160 c.args.samples.now c.half-first.new.samples c.requires.fact_5 (c.half-first.auto.samples ∙ first_part 160 c.args.samples.now c.requires.fact_5);
    }

pub returns : goal.returns
unfolding halves samples
returns c =
    let h = c.half-first in
    let k = c.half-second in record {
      halves = rw (k.ensures.step, h.ensures.step);
      samples = both_parts 160 c.args.samples.now h.new.samples k.new.samples (h.auto.samples ∙ first_part 160 c.args.samples.now c.requires.fact_5)
          ∙ rw (h.ensures.samples, k.ensures.samples, h.ensures.step);
    }
