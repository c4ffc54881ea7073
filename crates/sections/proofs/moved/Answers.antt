-- The sum twice, cut to 32 bits, comes in front.
use borrow.Author.Rules.{rules}
use mathlib.Core.Path.{◌≡◌, ◌∙◌}
use lib.IntN.{pos}
use mir.Syntax.{w16, w32, w64}
use mir.Val.{to_z, of_z}
use mir.ValLaws.{to_z-of_z}
use Rattle.fixed.specs.Fixed as Fixed
use Rattle.fixed.specs.Machine.{back, wrap_sfits}
use Rattle.output_filter.specs.Postfilter.{at}
use Rattle.output_filter.specs.Sections.{moved}
use Rattle.sections.proofs.moved.Goals as goal
use Rattle.sections.proofs.moved.Goals.{After-trunc32-memory, Start}

abbrev start : goal.After-trunc32-memory → goal.Start
start c = c.before.before.before.before

memory_is : (c : goal.After-trunc32-memory) → to_z w64 (of_z w64 c.trunc32-memory.result) ≡ Fixed.trunc32 (Fixed.shift (start c).args.sum (pos 1))
memory_is c =
    let k = c.before.shift in
    let e : to_z w64 (of_z w64 k.result) ≡ Fixed.shift (start c).args.sum (pos 1) = back w64 k.result k.type_inv ∙ simp (to_z-of_z w64 _ (start c).ranges.sum) at k.ensures in
    back w64 c.trunc32-memory.result c.trunc32-memory.type_inv ∙ simp e at c.trunc32-memory.ensures

pub overflow_cast-memory : goal.overflow_cast-memory
overflow_cast-memory c = rw (memory_is c) (wrap_sfits w32 32 _ tt)

pub returns : goal.returns
unfolding moved
returns c =
    let t18 = c.before in
    let t14 = t18.before in
    let t11 = t14.before in
    let b = t11.before in
    let s = start b in
    simp (
      to_z-of_z w16 _ s.ranges.value,
      memory_is b,
      to_z-of_z w32 _ (wrap_sfits w32 32 (Fixed.shift s.args.sum (pos 1)) tt),
      back w16 (at s.args.lines.fir 0) (search rules),
      back w16 (at s.args.lines.fir 1) (search rules),
      back w32 (at s.args.lines.iir 0) (search rules),
      back w32 (at s.args.lines.iir 1) (search rules),
    )
