-- The local is the count so far.
use native.Mathlib.Omega.{arith}
use mathlib.Core.Path.{◌≡◌, sym, ◌∙◌, ap}
use Prim.Native.Nat.{◌+◌}
use lib.IntN.{pos}
use lib.ListN.{get_or}
use mir.Syntax.{w64}
use mir.Val.{SFits}
use mir.ValLaws.{to_z-of_z}
use borrow.Author.Rules.{rules}
use Rattle.sequence.specs.Count.{one, count, count_none, count_again, count_end, count_le}
use Rattle.fixed.specs.Clips.{one_of}
use Rattle.synthesis.proofs.changed.Invariants.{test}
use Rattle.synthesis.proofs.changed.Goals as goal
use Rattle.synthesis.proofs.changed.Goals.{After-from-clipped}

pub loop-sum-init : goal.loop-sum-init
loop-sum-init c = sym (count_none _)

-- a turn
counted : (c : After-from-clipped) → c.loop-sum.clipped + c.from-clipped.result ≡ count (test c.args.sums.now) (c.loop-sum.sum-index + 1)
counted c =
    let f : SFits w64 (get_or c.args.sums.now c.loop-sum.sum-index (pos 0)) = search rules in
    count_again (test c.args.sums.now) c.loop-sum.sum-index c.loop-sum.invariant (c.from-clipped.ensures ∙ one_of c.clips.result ∙ ap one (simp to_z-of_z at c.clips.ensures))

pub overflow_add-clipped : goal.overflow_add-clipped
overflow_add-clipped c = omega (arith, counted c, count_le (test c.args.sums.now) (c.loop-sum.sum-index + 1), c.requires)

pub loop-sum-preserved : goal.loop-sum-preserved
loop-sum-preserved c = counted c

pub returns : goal.returns
returns c = count_end (test c.args.sums.now) (omega arith) (omega arith) c.loop-sum.invariant
