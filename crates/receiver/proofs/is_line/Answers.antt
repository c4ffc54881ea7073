-- By the three tests.
use Rattle.std.proofs.Common.{sym, ◌∙◌, eq-eqb, ne_eqb, true≢false}
use Rattle.receiver.specs.Receiver.{is_line}
use Rattle.receiver.proofs.is_line.Goals as goal
use Rattle.receiver.proofs.is_line.Goals.{then-line-eq162, else-line-eq162}

pub returns-then-all_up_to : goal.returns-then-all_up_to
unfolding is_line
returns-then-all_up_to c = elim c.if-line-eq162.branch [
  | then-line-eq162 w ↦ rw (eq-eqb _ 162 w.if-line-eq162.true, sym w.all_up_to.ensures, sym w.value-is ∙ c.if-all_up_to.true) c.all_up_to-then-all_up_to.ensures
  | else-line-eq162 w ↦ absurd (true≢false (sym c.if-all_up_to.true ∙ w.value-is ∙ ne_eqb _ 162 w.if-line-eq162.false))
]

pub returns-else-all_up_to : goal.returns-else-all_up_to
unfolding is_line
returns-else-all_up_to c = elim c.if-line-eq162.branch [
  | then-line-eq162 w ↦ rw (eq-eqb _ 162 w.if-line-eq162.true, sym w.all_up_to.ensures, sym w.value-is ∙ c.if-all_up_to.false) c.if-all_up_to.false
  | else-line-eq162 w ↦ rw (ne_eqb _ 162 w.if-line-eq162.false) c.if-all_up_to.false
]
