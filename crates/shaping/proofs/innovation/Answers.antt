-- The codebook's innovation, and the gains that the first call gave of the coefficient that the premise names.
use borrow.Author.Rules.{rules}
use mathlib.Core.Path.{◌≡◌, ◌∙◌, ap}
use lib.IntN.{ℤ}
use mir.Syntax.{w16}
use mir.ValLaws.{to_z-of_z}
use Rattle.excitation.specs.Excitation as Excitation
use Rattle.half.specs.Core as Spec
use Rattle.shaping.proofs.innovation.Goals as goal

pub returns : goal.returns
unfolding Spec.innovation Spec.sharpen_gains
returns c =
    let p = c.args.params in
    let g : c.interpolation_gains-g.result ≡ Spec.sharpen_gains p.lpc p.lag c.args.sharpen_fixed c.args.last_half_lag =
    simp (to_z-of_z w16 _ c.ranges.reflection, to_z-of_z w16 _ c.ranges.sharpen_fixed, to_z-of_z w16 p.lag.integer (search rules), to_z-of_z w16 _ c.ranges.last_half_lag) at c.interpolation_gains-g.ensures
    ∙ ap (λ (z : ℤ). Excitation.interpolation_gains z c.args.sharpen_fixed p.lag.integer c.args.last_half_lag) c.requires.fact_4 in
    c.shaped.ensures ∙ (λ i. Spec.shaped c.args.words.now (c.decode.ensures i) p.lag (g i))
