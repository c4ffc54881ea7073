-- A line that passes is held whole.
use Rattle.std.proofs.Common.{◌≡◌, true, arith}
use Rattle.std.proofs.lemmas.Grind.{common_steps}
use borrow.Author.Rules.{rules}
use Rattle.hex_lines.specs.Held as Held
use Rattle.mending.specs.Repair.{passes}
use Rattle.mending.specs.Looked.{passes_held}
use Rattle.mending.proofs.passes.Goals as goal

pub returns-then-is_start-clause-whole : goal.returns-then-is_start-clause-whole
unfolding passes
returns-then-is_start-clause-whole c =
    let l = c.args.line in
    let e : passes c.args.opens (Held.held_line l) ≡ true = grind (arith, common_steps) in
    λ z. passes_held c.args.opens l (search rules) e
