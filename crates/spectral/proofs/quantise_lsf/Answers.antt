-- By turn k the prior is the largest of the first k, and what is written is that at each turn.
use mathlib.Core.Path.{refl, sym, subst, ◌∙◌}
use Prim.Native.Nat.{◌+◌}
use lib.IntN.{ℤ, pos}
use lib.ListN.{replicate, set}
use mir.Syntax.{w16}
use mir.ValLaws.{to_z-of_z}
use Rattle.spectral.proofs.Largest.{Running, running_none, running_more, running_end}
use borrow.Author.Rules.{sfits_of}
use Rattle.spectral.proofs.quantise_lsf.Goals as goal

pub loop-k-init : goal.loop-k-init
loop-k-init c = running_none _ (replicate 10 (pos 0)) refl

pub loop-k-preserved : goal.loop-k-preserved
loop-k-preserved c =
    let at = c.before.before.before.loop-k in
    let lsf = c.before.before.before.before.args.lsf in
    let q = to_z-of_z w16 c.before.quantise.result (sfits_of c.before.quantise.type_inv) ∙ c.before.quantise.ensures in
    subst (λ (z : ℤ). Running lsf (set at.out at.k z) z (at.k + 1)) (sym (to_z-of_z w16 c.max-prior.result (sfits_of c.max-prior.type_inv)))
    (running_more lsf at.out _ _ c.max-prior.result at.k at.invariant c.before.before.loop-k-test.true q c.max-prior.ensures.value)

pub returns : goal.returns
returns c = let at = c.before.loop-k in running_end _ at.out _ at.k at.invariant c.loop-k-test.false
