-- By the set's refusal number.
use Rattle.std.proofs.Common.{sym, ◌∙◌}
use Rattle.refusal.specs.Numbers.{number_not_0}
use Rattle.tables.specs.Rules.{accepted_only}
use Rattle.state.specs.Start.{started_refused, started_accepted}
use Rattle.state.proofs.started.Goals as goal

pub fault-told-requires : goal.fault-told-requires
fault-told-requires c = λ e. sym c.in-Err.ensures ∙ sym c.number-number.ensures ∙ e

pub returns-in-Err : goal.returns-in-Err
returns-in-Err c = rw (c.all_zero.ensures, c.fault-told.ensures, c.number-number.ensures) (started_refused _ _ _ _ c.in-Err.ensures (number_not_0 c.in-Err.why))

pub initial-requires : goal.initial-requires
initial-requires c = let a = accepted_only c.args.words.now c.args.bytes.now (sym c.in-Ok.ensures) in record {
  fact_1 = a.0;
  fact_2 = a.1;
}

pub returns-in-Ok : goal.returns-in-Ok
returns-in-Ok c = rw c.initial.ensures (started_accepted _ _ _ (sym c.in-Ok.ensures))
