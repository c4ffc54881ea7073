-- A lag's negated fraction, as the machine forms it, and the two ways to the phase.
use native.Mathlib.Omega.{arith}
use mathlib.Core.Bool.{true, false}
use mathlib.Core.Path.{◌≡◌, ap, ◌∙◌, subst}
use Prim.Native.Nat.{suc, ◌≤◌, ◌<◌}
use lib.Dec.{T}
use lib.IntN.{ℤ, pos, negsuc, neg_ℤ, nat_abs, ◌+ℤ◌, ◌-ℤ◌}
use lib.Signed.{lt_z}
use borrow.Author.Tests.{ltb-true}
use mir.Syntax.{w16}
use mir.Val.{SFits, to_z, of_z}
use mir.ValLaws.{to_z-of_z}
use Rattle.fixed.specs.Fixed.{residue}
use Rattle.fixed.specs.Abs.{abs_neg, minus_is}
use Rattle.fixed.specs.Integers.{sub_above}
use Rattle.fixed.specs.Wrap.{residue_lt}
use Rattle.fixed.specs.Machine.{sfits_abs}
use Rattle.pitch.specs.declared.Lag.{Lag}
use Rattle.pitch.specs.Pitch.{Sane}
use Rattle.pitch.specs.Lags.{sane_frac}

module _ (l : Lag) (s : Sane l) where
  pub minus : pos 0 -ℤ to_z w16 (of_z w16 l.frac) ≡ neg_ℤ l.frac
  minus = rw (to_z-of_z w16 l.frac (sfits_abs w16 l.frac (omega (arith, sane_frac l s)))) (minus_is l.frac)

  pub minus_le : nat_abs (neg_ℤ l.frac) ≤ 1
  minus_le = rw (abs_neg l.frac) (sane_frac l s)

  pub minus_fits : SFits w16 (neg_ℤ l.frac)
  minus_fits = sfits_abs w16 _ (omega (arith, minus_le))

  pub minus_back : to_z w16 (of_z w16 (pos 0 -ℤ to_z w16 (of_z w16 l.frac))) ≡ neg_ℤ l.frac
  minus_back = rw minus (to_z-of_z w16 _ minus_fits)

-- below 0, three more than z are the residue, and else z itself
pub below : (z : ℤ) → nat_abs z ≤ 1 → lt_z z (pos 0) ≡ true → z +ℤ pos 3 ≡ pos (residue 3 z)
unfolding residue
below (pos n) h t = let l : n < 0 = ltb-true n 0 t in absurd (omega arith)
below (negsuc n) h t = sub_above 3 (suc n) (omega arith) ∙ ap pos (omega arith)

pub above : (z : ℤ) → nat_abs z ≤ 1 → lt_z z (pos 0) ≡ false → z ≡ pos (residue 3 z)
unfolding residue
above (pos n) h t = ap pos (omega arith)
above (negsuc n) h t = absurd (subst T t tt)

pub residue_fits : (z : ℤ) → SFits w16 (pos (residue 3 z))
residue_fits z = sfits_abs w16 _ (omega (arith, residue_lt 3 z (omega arith)))
