-- The local is the count so far.
use native.Mathlib.Omega.{arith}
use mathlib.Core.Path.{◌≡◌, sym, ◌∙◌, ap}
use Prim.Native.Nat.{◌+◌}
use lib.IntN.{pos}
use lib.ListN.{get_or}
use mir.Syntax.{w16}
use mir.Val.{SFits}
use mir.ValLaws.{to_z-of_z}
use borrow.Author.Rules.{rules}
use Rattle.sequence.specs.Count.{one, count, count_none, count_again, count_end, count_le}
use Rattle.fixed.specs.Clips.{ends, one_of}
use Rattle.fixed.proofs.ends.Invariants.{test}
use Rattle.fixed.proofs.ends.Goals as goal
use Rattle.fixed.proofs.ends.Goals.{After-from-found}

pub loop-x-init : goal.loop-x-init
loop-x-init c = sym (count_none _)

counted : (c : After-from-found) → c.loop-x.found + c.from-found.result ≡ count (test c.args.block.now) (c.loop-x.x-index + 1)
counted c =
    let x = get_or c.args.block.now c.loop-x.x-index (pos 0) in
    let f : SFits w16 x = search rules in
    count_again (test c.args.block.now) c.loop-x.x-index c.loop-x.invariant (c.from-found.ensures ∙ one_of c.at_end.result ∙ ap one (simp to_z-of_z at c.at_end.ensures))

pub overflow_add-found : goal.overflow_add-found
overflow_add-found c = omega (arith, counted c, count_le (test c.args.block.now) (c.loop-x.x-index + 1), c.requires)

pub loop-x-preserved : goal.loop-x-preserved
loop-x-preserved c = counted c

pub returns : goal.returns
unfolding ends
returns c = count_end (test c.args.block.now) (omega arith) (omega arith) c.loop-x.invariant
