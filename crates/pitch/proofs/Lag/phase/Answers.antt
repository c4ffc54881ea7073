-- The negated fraction, or three more than it, is its residue, which a number without a sign holds.
use native.Mathlib.Omega.{arith}
use mathlib.Core.Path.{◌≡◌, ◌∙◌, ap}
use lib.Dec.{T}
use lib.IntN.{ℤ, pos, neg_ℤ, nat_abs, ◌+ℤ◌, ◌-ℤ◌}
use lib.Signed.{non_neg}
use mir.Syntax.{w16, w64}
use mir.Val.{Fits, to_z, of_z}
use mir.ValLaws.{to_z-of_z}
use Rattle.fixed.specs.Fixed.{residue}
use Rattle.fixed.specs.Wrap.{residue_lt}
use Rattle.pitch.specs.declared.Lag.{Lag}
use Rattle.pitch.specs.Pitch as Pitch
use Rattle.pitch.proofs.Fraction.{minus, minus_le, minus_fits, minus_back, below, above, residue_fits}
use Rattle.pitch.proofs.Lag.phase.Goals as goal
use Rattle.pitch.proofs.Lag.phase.Goals.{Else-p-lt0, Then-p-lt0}

pub overflow_sub-p : goal.overflow_sub-p
overflow_sub-p c = let s = c.before.before in rw (minus s.args.self s.requires) (minus_fits s.args.self s.requires)

usable : (z : ℤ) → T (non_neg (pos (residue 3 z))) × Fits w64 (residue 3 z)
usable z = (tt, record { fits = omega (arith, residue_lt 3 z (omega arith)) })

module _ (c : goal.Then-p-lt0) where
  abbrev l : Lag
  l = c.before.before.before.args.self

  p_is : to_z w16 (of_z w16 (pos 0 -ℤ to_z w16 (of_z w16 l.frac))) ≡ neg_ℤ l.frac
  p_is = minus_back l c.before.before.before.requires

  sum : to_z w16 (of_z w16 (pos 0 -ℤ to_z w16 (of_z w16 l.frac))) +ℤ pos 3 ≡ pos (residue 3 (neg_ℤ l.frac))
  sum = rw p_is (below (neg_ℤ l.frac) (minus_le l c.before.before.before.requires) (simp p_is at c.if-p-lt0.true))

pub overflow_add-result : goal.overflow_add-result
overflow_add-result c = rw (sum c) (residue_fits _)

pub overflow_cast-result : goal.overflow_cast-result
overflow_cast-result c = simp (sum c, to_z-of_z w16 _ (residue_fits (neg_ℤ (l c).frac))) (usable _)

module _ (c : goal.Else-p-lt0) where
  abbrev m : Lag
  m = c.before.before.before.args.self

  q_is : to_z w16 (of_z w16 (pos 0 -ℤ to_z w16 (of_z w16 m.frac))) ≡ pos (residue 3 (neg_ℤ m.frac))
  q_is =
      let s = c.before.before.before.requires in
      minus_back m s ∙ above (neg_ℤ m.frac) (minus_le m s) (simp (minus_back m s) at c.if-p-lt0.false)

pub overflow_cast-result-else-p-lt0 : goal.overflow_cast-result-else-p-lt0
overflow_cast-result-else-p-lt0 c = rw (q_is c) (usable _)

pub returns-then-p-lt0 : goal.returns-then-p-lt0
unfolding Pitch.phase
returns-then-p-lt0 c = simp (sum c, to_z-of_z w16 _ (residue_fits (neg_ℤ (l c).frac)))

pub returns-else-p-lt0 : goal.returns-else-p-lt0
unfolding Pitch.phase
returns-else-p-lt0 c = ap nat_abs (q_is c)
