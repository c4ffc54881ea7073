-- By the two tests, and the fields that `gather` gives.
use lib.Bits.{bit_and}
use lib.ListN.{get_or}
use borrow.Author.Tests.{eq-eqb, ne_eqb}
use Rattle.bits.specs.Bits.{fields_of, unpack}
use Rattle.bits.specs.Calls.{unpack_answers}
use Rattle.frame_params.proofs.unpack.Goals as goal

pub returns-then-payload-ne20 : goal.returns-then-payload-ne20
unfolding unpack
returns-then-payload-ne20 c = unpack_answers _ _ (simp (ne_eqb _ 20 c.if-payload-ne20.true))

pub returns-then-payload-ne0 : goal.returns-then-payload-ne0
unfolding unpack
returns-then-payload-ne0 c =
    let l = eq-eqb _ 20 c.if-payload-ne20.false in
    let m = ne_eqb (bit_and (get_or c.args.payload.now 19 0) 192) 0 c.if-payload-ne0.true in
    unpack_answers _ _ (simp (l, m))

pub returns : goal.returns
unfolding unpack fields_of
returns c =
    let l = eq-eqb _ 20 c.if-payload-ne20.false in
    let m = eq-eqb (bit_and (get_or c.args.payload.now 19 0) 192) 0 c.if-payload-ne0.false in
    unpack_answers _ _ (simp (l, m, c.half_params-second.ensures, c.half_params-first.ensures, c.gather-fields.ensures))
