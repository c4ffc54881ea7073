-- The loop's sum is the total of the products so far.
use borrow.Author.Rules.{rules}
use native.Mathlib.Omega.{arith}
use mathlib.Core.Path.{◌≡◌, refl}
use lib.IntN.{pos}
use lib.ListN.{get_or}
use mir.Syntax.{w16, w64}
use mir.Val.{SFits, to_z, of_z}
use Rattle.fixed.specs.Machine.{back}
use Rattle.std.proofs.lemmas.Int.{to_z-of_z}
use Rattle.sequence.specs.Total.{total, total_more}
use Rattle.fixed.specs.Fixed as Fixed
use Rattle.products.specs.Runs.{term}
use Rattle.products.proofs.each.Goals as goal
use Rattle.products.proofs.each.Goals.{After-mul}

pub loop-k-init : goal.loop-k-init
unfolding total
loop-k-init c = (omega arith, refl)

product : (c : goal.After-mul) → c.mul.result ≡ term c.args.taps.now c.args.signal.now c.loop-k.k
product c =
    let f : SFits w16 (get_or c.args.taps.now c.loop-k.k (pos 0)) = search rules in
    let g : SFits w16 (get_or c.args.signal.now c.loop-k.k (pos 0)) = search rules in
    simp to_z-of_z at c.mul.ensures

pub loop-k-preserved : goal.loop-k-preserved
loop-k-preserved c =
    let e = back w64 c.fold-value.result c.fold-value.type_inv in
    let f = back w64 c.mul.result c.mul.type_inv in
    let p = product c.before in
    let m = total_more Fixed.fold (to_z w64 (of_z w64 c.acc-value.result)) (term c.args.taps.now c.args.signal.now) c.loop-k.k in
    (omega arith, cc)
