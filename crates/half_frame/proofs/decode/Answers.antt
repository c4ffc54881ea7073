-- Each part is what its call gave, of those before it.
use mir.ValLaws.{to_z-of_z}
use borrow.Author.Rules.{rules}
use native.Mathlib.Omega.{arith}
use mathlib.Core.Path.{◌∙◌}
use mir.Syntax.{w16}
use Rattle.half.specs.Accepted.{Accepted, first_usable, second_usable}
use Rattle.half_frame.proofs.Parts.{Subframes, samples_are, half_is}
use Rattle.half_frame.proofs.decode.Goals as goal

pub decode_subframe-a-requires : goal.decode_subframe-a-requires
decode_subframe-a-requires c =
    let k : Accepted c.args.words.now c.args.bytes.now c.args.params = record { set = c.requires.fact_1; widths = c.requires.fact_2; digits0 = c.requires.fact_3; digits1 = c.requires.fact_4 } in
    record {
      fact_1 = rw c.split_params-pair.ensures (first_usable k c.args.core.lsp c.args.lsp);
      fact_2 = omega arith;
      fact_3 = search rules;
    }

pub decode_subframe-b-requires : goal.decode_subframe-b-requires
decode_subframe-b-requires c =
    let k : Accepted c.args.words.now c.args.bytes.now c.args.params = record { set = c.requires.fact_1; widths = c.requires.fact_2; digits0 = c.requires.fact_3; digits1 = c.requires.fact_4 } in
    record {
      fact_1 = rw c.split_params-pair.ensures (second_usable k c.args.core.lsp c.args.lsp);
      fact_2 = omega arith;
      fact_3 = search rules;
    }

pub filter_both-run-requires : goal.filter_both-run-requires
filter_both-run-requires c = record {
  fact_1 = c.requires.fact_1.of_words.words_long;
  fact_2 = c.synthesise_both-left.auto.samples ∙ c.requires.fact_5;
}

pub returns : goal.returns
returns c =
    let core = c.args.core in
    let a = c.decode_subframe-a.result.subframe in
    let b = c.decode_subframe-b.result.subframe in
    let fixed_is = to_z-of_z w16 core.sharpen_fixed (search rules) in
    let lag_is = to_z-of_z w16 core.last_half_lag (search rules) in
    let parts : Subframes c.args.words.now c.args.bytes.now core c.args.lsp c.args.params a b c.decode_subframe-b.new.exc = record {
      pair = c.split_params-pair.result;
      room = c.room-exc.result;
      between = c.decode_subframe-a.new.exc;
      pair_is = c.split_params-pair.ensures;
      room_is = c.room-exc.ensures;
      a_is = simp (fixed_is, lag_is) at c.decode_subframe-a.ensures.is;
      between_is = c.decode_subframe-a.ensures.room;
      b_is = simp (to_z-of_z w16 a.sharpen_fixed (search rules), lag_is) at c.decode_subframe-b.ensures.is;
      behind_is = c.decode_subframe-b.ensures.room;
    } in
    let y_is = c.synthesise_both-left.ensures.samples in record {
      half = half_is parts y_is c.kept-excitation.ensures c.synthesise_both-left.ensures.left (to_z-of_z w16 b.sharpen_fixed (search rules)) (to_z-of_z w16 b.trace.lag.integer (search rules)) c.filter_both-run.ensures.left c.decode_subframe-a.ensures.counts c.decode_subframe-b.ensures.counts;
      samples = samples_are parts y_is c.filter_both-run.ensures.samples;
    }
