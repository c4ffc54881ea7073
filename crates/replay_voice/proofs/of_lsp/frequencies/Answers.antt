-- A number that is not negative takes the place of one that is not.
use native.Mathlib.Omega.{arith}
use mathlib.Core.Path.{refl, sym, subst}
use lib.IntN.{ℤ, pos}
use lib.Signed.{◌≤ℤ◌}
use lib.ListN.{length-set, get_or-replicate}
use mir.Syntax.{w16}
use mir.Val.{to_z, of_z}
use Rattle.fixed.specs.Machine.{back}
use Rattle.replay_voice.proofs.Kept.{kept}
use Rattle.replay_voice.proofs.of_lsp.frequencies.Goals as goal

pub loop-i-init : goal.loop-i-init
loop-i-init c = (omega arith, refl, λ k h. subst (λ (z : ℤ). pos 0 ≤ℤ z) (sym (get_or-replicate 10 k (pos 0) (pos 0) h)) (record { le = tt }))

pub loop-i-preserved : goal.loop-i-preserved
loop-i-preserved c =
    let l = c.before.before.before.loop-i in
    let p : pos 0 ≤ℤ to_z w16 (of_z w16 c.natural.result) = rw (back w16 c.natural.result c.natural.type_inv) c.natural.ensures in
    (omega arith, simp length-set l.invariant.1, λ k h. kept l.lsf l.i k _ p (l.invariant.2 k h))

pub returns : goal.returns
returns c = c.before.loop-i.invariant.2
