-- By the number: what is named is the set's first fault, or nothing.
use borrow.Author.Rules.{rules}
use native.Mathlib.Omega.{arith}
use Rattle.std.proofs.Common.{ap, ◌∙◌}
use Rattle.refusal.specs.declared.Refusal.TheVariants.{TablesRule}
use Rattle.refusal.specs.Numbers.{number, number_one, number_within}
use Rattle.heard.proofs.Refused.{lengths, named, unnamed}
use Rattle.heard.proofs.refuse.Goals as goal

pub slice_bounds-first_fault-count : goal.slice_bounds-first_fault-count
slice_bounds-first_fault-count c = let l = (c.requires.fact_2 (ap number c.in-TablesRule.is)).long in omega arith

pub slice_bounds-first_fault-start : goal.slice_bounds-first_fault-start
slice_bounds-first_fault-start c = let l = (c.requires.fact_2 (ap number c.in-TablesRule.is)).long in omega arith

pub first_fault-told-requires : goal.first_fault-told-requires
first_fault-told-requires c =
    let four = ap number c.in-TablesRule.is in
    let l = lengths c.args.words.now c.args.file.now (number c.args.why) c.requires.fact_1 four (c.requires.fact_2 four) in
    record { fact_1 = l.0; fact_2 = l.1 }

pub put_tables_refused-requires : goal.put_tables_refused-requires
put_tables_refused-requires c =
    let four = ap number c.in-TablesRule.is in
    let n = named c.args.words.now c.args.file.now (number c.args.why) c.requires.fact_1 four (c.requires.fact_2 four) c.first_fault-told.result c.first_fault-told.ensures in
    let w = number_within c.args.why in
    record {
      fact_1 = omega arith;
      fact_2 = n.0;
      fact_3 = search rules;
    }

pub returns-in-TablesRule : goal.returns-in-TablesRule
returns-in-TablesRule c =
    let four = ap number c.in-TablesRule.is in
    let n = named c.args.words.now c.args.file.now (number c.args.why) c.requires.fact_1 four (c.requires.fact_2 four) c.first_fault-told.result c.first_fault-told.ensures in
    rw (← n.1, ← c.number-number.ensures) c.put_tables_refused.ensures

pub put_tables_refused-requires-2 : goal.put_tables_refused-requires-2
put_tables_refused-requires-2 c =
    let w = number_within c.args.why in
    record {
      fact_1 = omega arith;
      fact_2 = omega arith;
      fact_3 = search rules;
    }

pub returns : goal.returns
returns c =
    rw (← (unnamed c.args.words.now c.args.file.now (number c.args.why) c.requires.fact_1 (λ e. c.in_default.not-TablesRule (number_one c.args.why TablesRule e))), ← c.number-number.ensures) c.put_tables_refused-2.ensures
