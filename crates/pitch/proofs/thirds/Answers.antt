-- n less three times its nearest third is what n + 1 leaves of a division by 3, less 1.
use native.Mathlib.Omega.{arith}
use mathlib.Core.Path.{◌≡◌, ◌∙◌}
use Prim.Native.Nat.{ℕ, ◌+◌, ◌*◌, ◌/◌, ◌%◌}
use lib.IntN.{pos, ◌-ℤ◌}
use mir.Syntax.{w16}
use mir.Val.{SFits, to_z}
use mir.ValLaws.{to_z-of_z, to_z_pos}
use Rattle.fixed.specs.Integers.{sub_is, sub_same}
use Rattle.fixed.specs.Machine.{sfits_abs}
use Rattle.pitch.specs.Pitch as Pitch
use Rattle.pitch.specs.Lags.{thirds_frac}
use Rattle.pitch.proofs.thirds.Goals as goal
use Rattle.pitch.proofs.thirds.Goals.{Start}

left : (n : ℕ) → pos n -ℤ pos ((n + 1) / 3 * 3) ≡ (Pitch.thirds n).frac
unfolding Pitch.thirds
left n = sub_is n ((n + 1) / 3 * 3) ∙ sub_same n ((n + 1) / 3 * 3) ((n + 1) % 3) 1 (omega arith)

module _ (s : goal.Start) where
  abbrev n : ℕ
  n = s.args.n

  frac : to_z w16 n -ℤ to_z w16 ((n + 1) / 3 * 3) ≡ (Pitch.thirds n).frac
  frac = rw (to_z_pos w16 n (omega (arith, s.requires)), to_z_pos w16 ((n + 1) / 3 * 3) (omega (arith, s.requires))) (left n)

  frac_fits : SFits w16 (Pitch.thirds n).frac
  frac_fits = sfits_abs w16 _ (omega (arith, thirds_frac n))

pub overflow_sub-result : goal.overflow_sub-result
overflow_sub-result c = rw (frac c) (frac_fits c)

pub returns : goal.returns
unfolding Pitch.thirds
returns c = simp (to_z_pos w16 ((n c + 1) / 3) (omega (arith, c.requires)), frac c, to_z-of_z w16 _ (frac_fits c))
