-- The sum so far is the total of the places passed, and at most 2 ^ 30 for each.
use mathlib.Core.Path.{refl, ap, ◌∙◌}
use Prim.Native.Nat.{ℕ, ◌+◌}
use native.Mathlib.Omega.{arith}
use borrow.Author.Rules.{rules}
use lib.IntN.{pos}
use lib.ListN.{get_or}
use mir.Syntax.{w16}
use mir.ValLaws.{to_z-of_z}
use Rattle.sequence.specs.Total.{total, total_again, total_end}
use Rattle.gain.specs.Gain.{square, squares}
use Rattle.gain_state.proofs.squares.Goals as goal

pub loop-c-init : goal.loop-c-init
unfolding total
loop-c-init c = (omega arith, refl, omega arith)

pub loop-c-preserved : goal.loop-c-preserved
loop-c-preserved c =
    let at = c.loop-c in
    let code = c.args.code.now in
    let s = c.square-n.ensures.small in
    let e = c.square-n.ensures.is ∙ ap square (to_z-of_z w16 (get_or code at.c-index (pos 0)) (search rules)) in
    (omega arith, total_again ◌+◌ 0 (λ k. square (get_or code k (pos 0))) at.c-index at.invariant.1 (ap (λ (x : ℕ). at.n + x) e), omega arith)

pub returns : goal.returns
unfolding squares
returns c =
    let at = c.loop-c in
    record {
      is = total_end ◌+◌ 0 (λ k. square (get_or c.args.code.now k (pos 0))) at.invariant.0 c.loop-c-test.false at.invariant.1;
      small = omega arith;
    }
