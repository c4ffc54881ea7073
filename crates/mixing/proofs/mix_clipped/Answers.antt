-- By turn n the count is that of n sums.
use borrow.Author.Rules.{rules}
use native.Mathlib.Omega.{arith}
use mathlib.Core.Bool.{Bool}
use mathlib.Core.Path.{◌≡◌, sym, ap, ◌∙◌}
use Prim.Native.Nat.{ℕ, ◌+◌}
use lib.IntN.{pos}
use lib.ListN.{get_or}
use mir.Syntax.{w16, w64}
use mir.Val.{to_z, of_z}
use mir.ValLaws.{to_z-of_z}
use Rattle.sequence.specs.Count.{one, count, count_none, count_again, count_end, count_le}
use Rattle.fixed.specs.Clips.{one_of}
use Rattle.fixed.specs.Fixed as Fixed
use Rattle.fixed.specs.Machine.{back}
use Rattle.half.specs.Core as Spec
use Rattle.mixing.proofs.mix_clipped.Invariants.{test}
use Rattle.mixing.proofs.mix_clipped.Goals as goal
use Rattle.mixing.proofs.mix_clipped.Goals.{After-from-clipped}

pub loop-n-init : goal.loop-n-init
loop-n-init c = (omega arith, sym (count_none _))

-- a turn: the sum and the count
module _ (c : goal.After-from-clipped) where
  abbrev n : ℕ
  n = c.loop-n.n

  abbrev f : ℕ → Bool
  f = test (to_z w16 (of_z w16 c.args.pitch_gain)) (to_z w16 (of_z w16 c.args.code_gain)) c.args.innovation.now c.args.predicted.now

  counted : c.loop-n.clipped + c.from-clipped.result ≡ count f (n + 1)
  counted =
      let m = c.mixed_sum-v in
      let e = back w64 m.result m.type_inv ∙ simp (to_z-of_z w16 (get_or c.args.predicted.now n (pos 0)) (search rules), to_z-of_z w16 (get_or c.args.innovation.now n (pos 0)) (search rules)) at m.ensures in
      let x : get_or c.args.predicted.now n (pos 0) ≡ get_or c.args.predicted.now (0 + n) (pos 0) = ap (λ (k : ℕ). get_or c.args.predicted.now k (pos 0)) (omega arith) in
      count_again f n c.loop-n.invariant.1 (c.from-clipped.ensures ∙ one_of c.clips.result ∙ ap one (c.clips.ensures ∙ ap Fixed.clips (rw x at e)))

pub overflow_add-clipped : goal.overflow_add-clipped
overflow_add-clipped c = omega (arith, counted c, count_le (f c) (n c + 1))

pub loop-n-preserved : goal.loop-n-preserved
loop-n-preserved c = (omega arith, counted c)

pub returns : goal.returns
unfolding Spec.mix_clipped
returns c =
    let l = c.loop-n in
    count_end _ l.invariant.0 (omega arith) l.invariant.1 ∙ simp (to_z-of_z w16 _ c.ranges.pitch_gain, to_z-of_z w16 _ c.ranges.code_gain)
