-- The second test is made only where the first fails.
use mathlib.Core.Bool.{Bool, ◌||◌}
use mathlib.Core.Path.{◌≡◌, sym, ◌∙◌, ap}
use mir.Syntax.{w16, w32}
use mir.ValLaws.{to_z-of_z}
use Rattle.fixed.specs.Machine.{back}
use Rattle.output_filter.specs.Sections as Sections
use Rattle.output_filter.specs.Sections.{beyond, fifths, short}
use Rattle.scaling.proofs.clips_at.Goals as goal
use Rattle.scaling.proofs.clips_at.Goals.{After-beyond}

first_is : (c : goal.After-beyond) → c.beyond.result ≡ beyond c.args.first
first_is c = simp (to_z-of_z w32 _ c.ranges.first) at c.beyond.ensures

pub returns-then-beyond : goal.returns-then-beyond
unfolding Sections.clips_at
returns-then-beyond c =
    c.if-beyond.true ∙ sym (ap (λ (t : Bool). t || beyond (fifths (short c.args.second))) (sym (first_is c.before) ∙ c.if-beyond.true))

pub returns-else-beyond : goal.returns-else-beyond
unfolding Sections.clips_at
returns-else-beyond c =
    simp (back w32 c.scaled_by.result c.scaled_by.type_inv) at c.beyond-else-beyond.ensures
    ∙ ap beyond (simp (back w16 c.short.result c.short.type_inv) at c.scaled_by.ensures)
    ∙ ap (λ z. beyond (fifths z)) (simp (to_z-of_z w32 _ c.ranges.second) at c.short.ensures)
    ∙ sym (ap (λ (t : Bool). t || beyond (fifths (short c.args.second))) (sym (simp (to_z-of_z w32 _ c.ranges.first) at c.beyond.ensures) ∙ c.if-beyond.false))
