-- 19 and a number below 126.
use native.Mathlib.Omega.{arith}
use mathlib.Core.Path.{◌≡◌, refl, ◌∙◌, ap}
use Prim.Native.Nat.{ℕ, ◌+◌, ◌%◌}
use lib.IntN.{ℤ, pos, ◌+ℤ◌}
use mir.Syntax.{w16}
use mir.Val.{SFits, to_z, of_z}
use mir.ValLaws.{to_z-of_z, to_z_pos}
use Rattle.fixed.specs.Machine.{sfits_abs}
use Rattle.replay_voice.proofs.of_pitch.before.Goals as goal

sum : (m : ℕ) → pos 19 +ℤ to_z w16 (m % 126) ≡ pos (19 + m % 126)
sum m = ap (λ (z : ℤ). pos 19 +ℤ z) (to_z_pos w16 (m % 126) (omega arith))

sum_fits : (m : ℕ) → SFits w16 (pos 19 +ℤ to_z w16 (m % 126))
sum_fits m = rw (sum m) (sfits_abs w16 _ (omega arith))

sum_back : (m : ℕ) → to_z w16 (of_z w16 (pos 19 +ℤ to_z w16 (m % 126))) ≡ pos (19 + m % 126)
sum_back m = to_z-of_z w16 _ (sum_fits m) ∙ sum m

pub overflow_add-result : goal.overflow_add-result
overflow_add-result c = sum_fits c.magnitude.result

pub returns : goal.returns
returns c = rw (sum_back c.magnitude.result) (record { is = refl; least = omega arith; most = omega arith })
