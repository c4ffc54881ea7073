-- A number of 0..=32,767 is the same in both types.
use native.Mathlib.Omega.{arith}
use lib.IntN.{pos}
use mir.Syntax.{w16}
use mir.Val.{SFits}
use mir.ValLaws.{to_z-of_z}
use Rattle.floats.specs.Floats.{quantise}
use Rattle.floats.specs.Quantised.{quantise_le}
use Rattle.tally.specs.Figures.{whole}
use Rattle.counting.proofs.whole.Goals as goal

pub overflow_cast-result : goal.overflow_cast-result
overflow_cast-result c = let f : SFits w16 (pos (quantise 32767 c.before.args.x)) = record { sfits = omega (arith, quantise_le 32767 c.before.args.x) } in rw (c.quantise.ensures, to_z-of_z w16 _ f) (tt, record { fits = omega (arith, quantise_le 32767 c.before.args.x) })

pub returns : goal.returns
unfolding whole
returns c = let f : SFits w16 (pos (quantise 32767 c.before.args.x)) = record { sfits = omega (arith, quantise_le 32767 c.before.args.x) } in rw (c.quantise.ensures, to_z-of_z w16 _ f)
