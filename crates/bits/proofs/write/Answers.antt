-- The digits to come, put at the places to come, make the bits.
use native.Mathlib.Nat.{add_assoc}
use Rattle.std.proofs.Common.{◌≡◌, refl, ◌+◌, ◌-◌, ◌%◌, arith}
use Rattle.bits.specs.Places.{place_below}
use Rattle.bits.proofs.Walk.{writing_more}
use Rattle.bits.proofs.write.Goals as goal

pub loop-k-init : goal.loop-k-init
loop-k-init c =
    let a : c.args.at + 0 ≡ c.args.at = omega arith in
    let w : c.args.width - 0 ≡ c.args.width = omega arith in
    rw (a, w) (record { near = omega arith; few = omega arith; rest = refl })

pub bounds-bits-i : goal.bounds-bits-i
bounds-bits-i c = omega (arith, c.place-i.ensures, place_below (c.args.at + c.loop-k.k) (omega arith))

pub loop-k-preserved : goal.loop-k-preserved
loop-k-preserved c =
    let l = c.loop-k in
    let t : c.args.width - 1 - l.k ≡ c.args.width - (l.k + 1) = omega arith in
    rw (add_assoc c.args.at l.k 1) at (writing_more {t' = c.args.width - (l.k + 1)} {x = (c.digit.result + c.inverted.result) % 2} l.invariant (omega arith) c.place-i.ensures (rw (c.digit.ensures.0, c.inverted.ensures.0, t)))

pub returns : goal.returns
returns c =
    let t : c.args.width - c.loop-k.k ≡ 0 = omega arith in
    rw t at c.loop-k.invariant.rest
