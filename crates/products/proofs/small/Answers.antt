-- The local holds the sizes so far, each of which is at most 32,768.
use borrow.Author.Rules.{rules}
use native.Mathlib.Omega.{arith}
use mathlib.Core.Path.{◌≡◌, refl, ◌∙◌, ap}
use lib.Dec.{leb}
use lib.IntN.{pos, nat_abs}
use lib.ListN.{length, get_or}
use mir.Syntax.{w16}
use mir.Val.{SFits}
use mir.ValLaws.{to_z-of_z}
use Rattle.sequence.specs.Total.{total}
use Rattle.products.specs.Runs.{sizes, sizes_more, small, MOST}
use Rattle.products.proofs.small.Goals as goal
use Rattle.products.proofs.small.Goals.{After-from-sum}

pub loop-tap-init : goal.loop-tap-init
unfolding sizes total
loop-tap-init c = (omega arith, refl)

-- an element's size
size_is : (c : After-from-sum) → c.from-sum.result ≡ nat_abs (get_or c.args.taps.now c.loop-tap.tap-index (pos 0))
size_is c =
    let f : SFits w16 (get_or c.args.taps.now c.loop-tap.tap-index (pos 0)) = search rules in
    c.from-sum.ensures ∙ simp to_z-of_z at c.unsigned_abs.ensures.value

pub overflow_add-sum : goal.overflow_add-sum
overflow_add-sum c = omega (arith, c.from-sum.ensures, c.unsigned_abs.ensures.bound, c.requires)

pub loop-tap-preserved : goal.loop-tap-preserved
loop-tap-preserved c =
    let m = sizes_more c.args.taps.now c.loop-tap.tap-index in
    let e = size_is c in
    (omega (arith, c.from-sum.ensures, c.unsigned_abs.ensures.bound), omega arith)

pub returns : goal.returns
unfolding small
returns c =
    let t = c.args.taps.now in
    let e : c.loop-tap.tap-index ≡ length t = omega arith in
    ap (λ z. leb z MOST) (c.loop-tap.invariant.1 ∙ ap (sizes t) e)
