-- Sums of 16-bit numbers that are natural: what a local that holds one reads as.
use native.Mathlib.Omega.{arith}
use mathlib.Core.Path.{◌≡◌, ◌∙◌}
use Prim.Native.Nat.{ℕ, ◌-◌, ◌≤◌, ◌<◌}
use lib.IntN.{ℤ, pos, ◌-ℤ◌}
use mir.Syntax.{w16}
use mir.Val.{SFits, to_z, of_z}
use mir.ValLaws.{to_z-of_z}
use Rattle.fixed.specs.Integers.{sub_is, sub_above}
use Rattle.fixed.specs.Machine.{sfits_abs}

module _ {z : ℤ} {n : ℕ} (e : z ≡ pos n) (h : n < 32768) where
  pub fits : SFits w16 z
  fits = rw e (sfits_abs w16 (pos n) (omega arith))

  pub reads : to_z w16 (of_z w16 z) ≡ pos n
  reads = to_z-of_z w16 z fits ∙ e

pub less : {x : ℤ} {a : ℕ} (b : ℕ) → x ≡ pos a → b ≤ a → x -ℤ pos b ≡ pos (a - b)
less {a = a} b e h = rw e (sub_is a b ∙ sub_above a b h)
