-- Refused, or else the frame of the payload's fields, which an accepted payload has.
use mathlib.Core.Path.{refl, ap, ◌∙◌}
use Rattle.bits.specs.Bits.{fields}
use Rattle.refusal.specs.Numbers.{number_not_0}
use Rattle.celp.proofs.Refusals.{ready, stopped}
use Rattle.celp.proofs.answered.Goals as goal

pub spoilt-requires : goal.spoilt-requires
spoilt-requires c =
    record {
      fact_1 = c.requires.fact_1.of_words;
      fact_2 = c.requires.fact_3;
      fact_3 = c.fields-f.ensures ∙ ap fields c.unpack.ensures.0;
    }

pub returns-in-Err : goal.returns-in-Err
returns-in-Err c =
    let p = c.requires in
    let r = stopped c.args.words.now c.args.bytes.now c.args.state c.args.payload.now c.args.samples.now p.fact_1 p.fact_2 p.fact_3 p.fact_4 _ c.in-Err.ensures (number_not_0 c.in-Err.why) in
    record {
      answer = rw c.number.ensures at c.refused.ensures ∙ r.0;
      samples = r.1;
    }

pub decode-d-requires : goal.decode-d-requires
decode-d-requires c =
    let p = c.requires in
    let r = ready c.args.words.now c.args.bytes.now c.args.state c.args.payload.now c.args.samples.now p.fact_1 p.fact_2 p.fact_3 p.fact_4 0 c.in-Ok.ensures c.fields-f.result refl (c.fields-f.ensures ∙ ap fields c.unpack.ensures.0) in
    record {
      fact_1 = p.fact_1;
      fact_2 = r.first_within;
      fact_3 = r.second_within;
      fact_4 = r.digits_fit_lem;
      fact_5 = p.fact_4;
    }

pub returns-in-Ok : goal.returns-in-Ok
returns-in-Ok c =
    let p = c.requires in
    let r = ready c.args.words.now c.args.bytes.now c.args.state c.args.payload.now c.args.samples.now p.fact_1 p.fact_2 p.fact_3 p.fact_4 0 c.in-Ok.ensures c.fields-f.result refl (c.fields-f.ensures ∙ ap fields c.unpack.ensures.0) in
    record {
      answer = rw (c.accepted.ensures, c.decode-d.ensures.decoded, c.carried.ensures) r.answered;
      samples = rw (c.decode-d.ensures.samples, c.carried.ensures) r.left;
    }
