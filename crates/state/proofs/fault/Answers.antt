-- A set that is refused with 4 is as long as it must be, so it can be looked through again.
use borrow.Author.Tests.{eq-eqb, ne_eqb}
use Rattle.state.specs.State.{fault}
use Rattle.state.specs.Faults.{four_long}
use Rattle.state.proofs.fault.Goals as goal

pub first_fault-requires : goal.first_fault-requires
first_fault-requires c =
    let k = four_long c.args.words.now c.args.bytes.now (c.requires c.if-number-eq4.true) in
    record { fact_1 = k.0; fact_2 = k.1 }

pub returns-then-number-eq4 : goal.returns-then-number-eq4
unfolding fault
returns-then-number-eq4 c = rw (eq-eqb _ 4 c.if-number-eq4.true) c.first_fault.ensures

pub returns : goal.returns
unfolding fault
returns c = rw (ne_eqb _ 4 c.if-number-eq4.false)
