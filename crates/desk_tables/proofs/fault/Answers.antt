-- By the number: what is told is the set's first fault, or nothing.
use native.Mathlib.Omega.{arith}
use Rattle.std.proofs.Common.{ap}
use Rattle.refusal.specs.declared.Refusal.TheVariants.{TablesRule}
use Rattle.refusal.specs.Numbers.{number, number_one}
use Rattle.desk_tables.proofs.Outcomes.{four_file, set_lengths, found, none_found}
use Rattle.desk_tables.proofs.fault.Goals as goal

pub slice_bounds-first_fault-count : goal.slice_bounds-first_fault-count
slice_bounds-first_fault-count c = let l = four_file (number c.args.why) c.args.tables.now c.requires.fact_1 (ap number c.in-TablesRule.is) in omega arith

pub slice_bounds-first_fault-start : goal.slice_bounds-first_fault-start
slice_bounds-first_fault-start c = let l = four_file (number c.args.why) c.args.tables.now c.requires.fact_1 (ap number c.in-TablesRule.is) in omega arith

pub first_fault-requires : goal.first_fault-requires
first_fault-requires c =
    let k = set_lengths (number c.args.why) c.args.tables.now c.requires.fact_1 c.args.words.now c.requires.fact_2 (ap number c.in-TablesRule.is) in
    record { fact_1 = k.0; fact_2 = k.1 }

pub returns-in-TablesRule : goal.returns-in-TablesRule
returns-in-TablesRule c =
    found (number c.args.why) c.args.tables.now c.requires.fact_1 c.args.words.now c.requires.fact_2 (ap number c.in-TablesRule.is) c.first_fault.result c.first_fault.ensures

pub returns : goal.returns
returns c = none_found (number c.args.why) c.args.tables.now (λ e. c.in_default.not-TablesRule (number_one c.args.why TablesRule e))
