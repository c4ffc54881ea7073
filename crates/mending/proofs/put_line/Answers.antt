-- The newline behind it.
use Rattle.std.proofs.Common.{arith, [], ◌∷◌}
use Rattle.hex_lines.specs.Held as Held
use Rattle.mending.specs.Texts.{behind}
use Rattle.mending.specs.Repair.{said}
use Rattle.mending.specs.Look.{chosen, chosen_line}
use Rattle.mending.proofs.put_line.Goals as goal

pub returns-then-ended-clause-text : goal.returns-then-ended-clause-text
unfolding chosen_line said
returns-then-ended-clause-text c =
    let s = c.args in
    let q = c.put_mended-n.ensures in
    rw (c.if-ended.true, c.put_at.ensures.text, q.text, q.length) (behind (chosen s.kept (Held.held_line s.line)) (10 ∷ []) s.out.now (omega arith)).1
