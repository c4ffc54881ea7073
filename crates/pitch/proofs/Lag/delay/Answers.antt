-- A sane lag's integer is a natural number; the test is that of the negated fraction.
use native.Mathlib.Omega.{arith}
use mathlib.Core.Bool.{true, false}
use mathlib.Core.Path.{◌≡◌, ◌∙◌}
use lib.IntN.{pos, neg_ℤ, nat_abs}
use lib.Signed.{lt_z}
use mir.Syntax.{w16}
use mir.Val.{to_z, of_z}
use mir.ValLaws.{to_z-of_z}
use Rattle.fixed.specs.Machine.{sfits_abs}
use Rattle.pitch.specs.declared.Lag.{Lag}
use Rattle.pitch.specs.Pitch as Pitch
use Rattle.pitch.specs.Lags.{sane_integer}
use Rattle.pitch.proofs.Fraction.{minus, minus_fits, minus_back}
use Rattle.pitch.proofs.Lag.delay.Goals as goal

whole : (l : Lag) (s : Pitch.Sane l) → to_z w16 (of_z w16 l.integer) ≡ pos (nat_abs l.integer)
whole l s = let r = sane_integer l s in to_z-of_z w16 l.integer (sfits_abs w16 _ (omega arith)) ∙ r.is

pub overflow_cast-d : goal.overflow_cast-d
overflow_cast-d c =
    let s = c.before.before in
    let r = sane_integer s.args.self s.requires in
    rw (whole s.args.self s.requires) (tt, record { fits = omega arith })

pub overflow_sub-self : goal.overflow_sub-self
overflow_sub-self c = let s = c.before.before.before.before in rw (minus s.args.self s.requires) (minus_fits s.args.self s.requires)

pub overflow_add-result : goal.overflow_add-result
overflow_add-result c =
    let s = c.before.before.before.before.before in
    let r = sane_integer s.args.self s.requires in
    rw (whole s.args.self s.requires) (record { fits = omega arith })

pub returns-then-self-lt0 : goal.returns-then-self-lt0
unfolding Pitch.delay
returns-then-self-lt0 c =
    let s = c.before.before.before.before.before in
    let t : lt_z (neg_ℤ s.args.self.frac) (pos 0) ≡ true = simp (minus_back s.args.self s.requires) at c.if-self-lt0.true in
    simp (whole s.args.self s.requires, t)

pub returns-else-self-lt0 : goal.returns-else-self-lt0
unfolding Pitch.delay
returns-else-self-lt0 c =
    let s = c.before.before.before.before.before in
    let t : lt_z (neg_ℤ s.args.self.frac) (pos 0) ≡ false = simp (minus_back s.args.self s.requires) at c.if-self-lt0.false in
    simp (whole s.args.self s.requires, t) (omega arith)
