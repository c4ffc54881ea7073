-- The two halves, one after the other.
use mathlib.Core.Path.{sym, ◌∙◌}
use Rattle.observation.specs.Frame.{excitation}
use Rattle.observation.specs.Parts.{first_part, both_parts}
use Rattle.observation.proofs.put_excitation.Goals as goal

pub slice_bounds-put_pair-end-2 : goal.slice_bounds-put_pair-end-2
slice_bounds-put_pair-end-2 c = sym (first_part 160 c.args.out.now c.requires)

pub put_pair-requires : goal.put_pair-requires
put_pair-requires c = first_part 160 c.args.out.now c.requires

pub returns : goal.returns
unfolding excitation
returns c =
    both_parts 160 c.args.out.now c.put_pair.new.out c.put_pair-2.new.out (c.put_pair.auto.out ∙ first_part 160 c.args.out.now c.requires)
    ∙ rw (c.put_pair.ensures, c.put_pair-2.ensures)
