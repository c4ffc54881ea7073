use mathlib.Core.Path.{◌≡◌}
use mir.Syntax.{w16}
use mir.ValLaws.{to_z-of_z}
use Rattle.fixed.specs.Machine.{back}
use Rattle.excitation.specs.Excitation as Excitation
use Rattle.excitation.proofs.interpolation_gains.Goals as goal

pub returns : goal.returns
unfolding Excitation.interpolation_gains
returns c =
    let f = c.before.ranges in
    let e : c.second.result ≡ Excitation.second c.before.args.reflection c.before.args.previous_gain c.before.args.lag c.before.args.previous_lag = simp (to_z-of_z w16 _ f.reflection, to_z-of_z w16 _ f.previous_gain, to_z-of_z w16 _ f.lag, to_z-of_z w16 _ f.previous_lag) at c.second.ensures in
    simp (back w16 c.second.result c.second.type_inv) (simp e)
