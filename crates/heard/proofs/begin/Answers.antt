-- The file's number decides.
use borrow.Author.Rules.{rules}
use mathlib.Core.Path.{◌≡◌, refl, sym, ◌∙◌}
use native.Mathlib.Omega.{arith}
use Rattle.refusal.specs.Numbers.{number, number_not_0}
use Rattle.stream.specs.Room.{over_none, over_counts}
use Rattle.state.specs.State.{fault}
use Rattle.table_file.specs.File.{words, bytes, check_file, long_file, long_words, accepted_long, accepted_words}
use Rattle.hex_lines.specs.Lengths.{tables_refused_long}
use Rattle.heard.specs.Recording.{tables_text}
use Rattle.heard.specs.Start.{started_refused, started_ready, part_bytes}
use Rattle.heard.proofs.begin.Goals as goal

pub refuse-requires : goal.refuse-requires
refuse-requires c =
    record {
      fact_1 = c.in-Err.ensures.number;
      fact_2 = (λ e. let n = c.in-Err.ensures.number in let h = long_file c.args.file.now (λ z. omega arith) in record { long = h; are = c.check_file.ensures.words ∙ long_words c.args.file.now c.args.words.now h });
      fact_3 = search rules;
    }

pub returns-in-Err : goal.returns-in-Err
unfolding tables_text
returns-in-Err c =
    let s = c.args in
    let n = number c.in-Err.why in
    let k = started_refused s.file.now n c.in-Err.ensures.number (number_not_0 c.in-Err.why) in
    let r = c.refuse.ensures in
    let l = tables_refused_long n (fault n (words s.file.now) (bytes s.file.now)) in
    record {
      started = rw (k.0, c.idle.ensures, r.length, c.number.ensures);
      words = c.check_file.ensures.words;
      text = rw k.1 r.text;
      ready = (λ e. absurd (number_not_0 c.in-Err.why (sym c.number.ensures ∙ e)));
      fits = over_counts _ _ _ r.text r.length (omega arith);
    }

pub slice_bounds-from_cold-count : goal.slice_bounds-from_cold-count
slice_bounds-from_cold-count c =
    let h = accepted_long c.args.file.now (sym c.in-Ok.ensures.number) in
    omega arith

pub slice_bounds-from_cold-start : goal.slice_bounds-from_cold-start
slice_bounds-from_cold-start c =
    let h = accepted_long c.args.file.now (sym c.in-Ok.ensures.number) in
    omega arith

pub returns-in-Ok : goal.returns-in-Ok
returns-in-Ok c =
    let s = c.args in
    let e : check_file s.file.now ≡ 0 = sym c.in-Ok.ensures.number in
    let h = accepted_long s.file.now e in
    let k = started_ready s.file.now e in
    let w = c.check_file.ensures.words ∙ accepted_words s.file.now s.words.now e in
    record {
      started = rw (k.0, c.from_cold.ensures, w, part_bytes s.file.now h);
      words = c.check_file.ensures.words;
      text = rw k.1 (over_none s.room.now);
      ready = (λ z. record { long = h; are = w });
      fits = (search rules, refl);
    }
