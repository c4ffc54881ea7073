-- The digits to come, after v, are the number; v leaves room for them.
use Rattle.std.proofs.Common.{◌≡◌, refl, ap, ◌∙◌, get_or, ◌+◌, ◌-◌, arith}
use lib.Pow.{pow_pos}
use Rattle.bits.specs.Bits as Bits
use Rattle.bits.specs.Places.{place_below}
use Rattle.bits.proofs.Walk.{reading_more, room}
use Rattle.bits.proofs.read.Goals as goal
use Rattle.bits.proofs.read.Goals.{After-from}

pub loop-j-init : goal.loop-j-init
loop-j-init c = let e : c.args.at + c.args.width - c.args.at ≡ c.args.width = omega arith in rw e (record { near = omega arith; few = omega arith; small = pow_pos _; rest = refl })

pub overflow_mul-v : goal.overflow_mul-v
overflow_mul-v c =
    let l = c.loop-j in
    let t = c.args.at + c.args.width - l.j in
    omega (arith, (room 16 t (t - 1) l.v 0 (omega arith) l.invariant.few l.invariant.small (omega arith)).0)

pub bit-requires : goal.bit-requires
bit-requires c = (omega arith, omega (arith, place_below c.loop-j.j (omega arith)))

-- the next digit
next : (c : goal.After-from) → c.from.result ≡ Bits.read_bit c.args.payload.now (get_or Bits.places c.loop-j.j 0)
next c = c.from.ensures ∙ c.bit.ensures.0 ∙ ap (Bits.read_bit _) c.place.ensures

pub overflow_add-v : goal.overflow_add-v
overflow_add-v c = record { fits = (reading_more (Bits.read_bit _) {t' = c.args.at + c.args.width - (c.loop-j.j + 1)} c.loop-j.invariant (omega arith) (next c) (omega arith)).0 }

pub loop-j-preserved : goal.loop-j-preserved
loop-j-preserved c = (reading_more (Bits.read_bit _) c.loop-j.invariant (omega arith) (next c) (omega arith)).1

pub returns : goal.returns
returns c =
    let e : c.args.at + c.args.width - c.loop-j.j ≡ 0 = omega arith in
    rw e at c.loop-j.invariant.rest
