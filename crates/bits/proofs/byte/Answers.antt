-- t digits are to come: v followed by them is the byte, and v leaves room for them.
use Rattle.std.proofs.Common.{◌≡◌, refl, suc, ◌+◌, ◌-◌, ◌*◌, arith}
use Rattle.bits.specs.Bits.{byte_of}
use Rattle.bits.proofs.Walk.{room}
use Rattle.bits.proofs.byte.Goals as goal

pub loop-t-init : goal.loop-t-init
unfolding byte_of
loop-t-init c = (omega arith, refl)

pub overflow_mul-v : goal.overflow_mul-v
overflow_mul-v c =
    let l = c.loop-t in
    omega (arith, (room 8 l.t (l.t - 1) l.v 0 (omega arith) (omega arith) l.invariant.0 (omega arith)).0)

pub overflow_add-v-in-loop-t : goal.overflow_add-v-in-loop-t
overflow_add-v-in-loop-t c =
    let l = c.loop-t in
    let b = c.requires.1 (c.args.b * 8 + (l.t - 1)) in
    omega (arith, (room 8 l.t (l.t - 1) l.v _ (omega arith) (omega arith) l.invariant.0 b).0)

pub loop-t-preserved : goal.loop-t-preserved
loop-t-preserved c =
    let l = c.loop-t in
    let b = c.requires.1 (c.args.b * 8 + (l.t - 1)) in
    let e : l.t ≡ suc (l.t - 1) = omega arith in
    ((room 8 l.t (l.t - 1) l.v _ e (omega arith) l.invariant.0 b).1, rw e at l.invariant.1)

pub returns : goal.returns
returns c = let e : c.loop-t.t ≡ 0 = omega arith in rw e at c.loop-t.invariant.1
