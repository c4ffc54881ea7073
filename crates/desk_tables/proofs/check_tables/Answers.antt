-- The lengths decide first; then the number is the file's, and the room has what is told.
use Prim.Native.Nat.{ℕ}
use mathlib.Core.Path.{◌≡◌, ◌∙◌}
use native.Mathlib.Omega.{arith}
use Rattle.refusal.specs.Numbers.{number}
use Rattle.desk_tables.proofs.Outcomes.{check_one, check_two, check_told_lem, file_words, place_small, none_found}
use Rattle.desk_tables.proofs.check_tables.Goals as goal

pub returns-then-tables-ne-TABLES : goal.returns-then-tables-ne-TABLES
returns-then-tables-ne-TABLES c =
    let k = check_one c.args.tables.now c.args.told.now c.if-told-ne-TOLD.true c.if-tables-ne-TABLES.true in
    record { number = c.number.ensures ∙ k.0; told = k.1 }

pub returns-then-told-ne-TOLD : goal.returns-then-told-ne-TOLD
returns-then-told-ne-TOLD c =
    let k = check_two c.args.tables.now c.args.told.now c.if-told-ne-TOLD.true c.if-tables-ne-TABLES.false in
    record { number = c.number-then-told-ne-TOLD.ensures ∙ k.0; told = k.1 }

pub fault-requires : goal.fault-requires
fault-requires c =
    let e = c.in-Err.ensures.number in
    record {
      fact_1 = e;
      fact_2 = λ four. c.check_file.ensures.words ∙ file_words (number c.in-Err.why) c.args.tables.now e _ four;
    }

pub put_fault-requires : goal.put_fault-requires
put_fault-requires c = record {
  fact_1 = c.if-told-ne-TOLD.false;
  fact_2 = place_small (number c.in-Err.why) c.args.tables.now c.in-Err.ensures.number c.fault.result c.fault.ensures;
}

pub returns-in-Err : goal.returns-in-Err
returns-in-Err c =
    let k = check_told_lem c.args.tables.now c.args.told.now c.if-told-ne-TOLD.false (number c.in-Err.why) c.fault.result c.put_fault.new.told c.in-Err.ensures.number c.fault.ensures c.put_fault.ensures in
    record { number = c.number-in-Err.ensures ∙ k.0; told = k.1 }

pub returns-in-Ok : goal.returns-in-Ok
returns-in-Ok c =
    let not_four : ◌≡◌ {A = ℕ} 0 4 → ⊥ = λ e. omega arith in
    let k = check_told_lem c.args.tables.now c.args.told.now c.if-told-ne-TOLD.false 0 _ _ c.in-Ok.ensures.number (none_found 0 c.args.tables.now not_four) c.put_fault-in-Ok.ensures in
    record { number = k.0; told = k.1 }
