-- Below top the nearest whole number needs no clamp, and from top on it is at least top.
use Rattle.std.proofs.Common.{pos, sym, ap, ◌∙◌, arith, w16}
use mir.ValLaws.{to_z-of_z}
use borrow.Author.Rules.{sfits_of}
use lib.Ieee.{of_bits}
use Rattle.floats.proofs.Ends.{over, under, not_above, small_of}
use Rattle.floats.proofs.quantise.Goals as goal

pub round_even-requires : goal.round_even-requires
unfolding of_bits
round_even-requires c = let k = small_of c.args.top c.requires c.args.x c.if-x.true c.if-x-top.true in record { fact_1 = k.0; fact_2 = k.1 }

pub overflow_cast-result : goal.overflow_cast-result
unfolding of_bits
overflow_cast-result c =
    let z = c.before.before.before.before in
    let u = under z.args.top z.requires z.args.x c.round_even.result c.before.before.before.if-x.true c.before.if-x-top.true c.round_even.ensures in
    sfits_of (omega arith)

pub returns-then-x-top : goal.returns-then-x-top
unfolding of_bits
returns-then-x-top c =
    let z = c.before.before.before.before in
    let u = under z.args.top z.requires z.args.x c.round_even.result c.before.before.before.if-x.true c.before.if-x-top.true c.round_even.ensures in
    to_z-of_z w16 (pos c.round_even.result) (sfits_of (omega arith)) ∙ ap pos u.1

pub returns-else-x-top : goal.returns-else-x-top
unfolding of_bits
returns-else-x-top c =
    let z = c.before.before.before in
    to_z-of_z w16 (pos z.args.top) (sfits_of (omega arith)) ∙ ap pos (sym (over z.args.top z.requires z.args.x c.before.before.if-x.true c.if-x-top.false))

pub returns-else-x : goal.returns-else-x
unfolding of_bits
returns-else-x c = ap pos (sym (not_above c.before.args.top c.before.args.x c.if-x.false))
