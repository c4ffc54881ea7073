-- The two parts, one after the other.
use borrow.Author.Rules.{rules}
use mathlib.Core.Path.{◌≡◌, sym, ◌∙◌}
use lib.ListN.{length}
use Rattle.observation.specs.Parts.{first_part, both_parts}
use Rattle.observation.proofs.put_pair.Goals as goal

pub slice_bounds-copy_from_slice-end-2 : goal.slice_bounds-copy_from_slice-end-2
slice_bounds-copy_from_slice-end-2 c = sym (first_part 80 c.args.out.now c.requires)

pub copy_from_slice-requires : goal.copy_from_slice-requires
copy_from_slice-requires c =
    let e : 80 ≡ length c.args.a = search rules in
    first_part 80 c.args.out.now c.requires ∙ e

pub returns : goal.returns
returns c =
    both_parts 80 c.args.out.now c.copy_from_slice.new.self c.copy_from_slice-2.new.self (c.copy_from_slice.auto.self ∙ first_part 80 c.args.out.now c.requires)
    ∙ rw (c.copy_from_slice.ensures.after, c.copy_from_slice-2.ensures.after)
