-- What is still to come decides, and the state rule is kept from frame to frame.
use borrow.Author.Rules.{rules}
use Prim.Native.Nat.{◌+◌, ◌*◌}
use mathlib.Core.Path.{refl, sym, ◌∙◌}
use native.Mathlib.Omega.{arith}
use borrow.Rule.Slice.PartMut.{mid_len}
use lib.ListN.{length}
use Rattle.celp.proofs.Coming.{coming_all, coming_less, coming_none}
use Rattle.celp.proofs.each.Goals as goal

pub loop-k-init : goal.loop-k-init
loop-k-init c = coming_all _ _ _ _ _ _ _ c.requires.fact_5 refl (record { residuals_long = search rules; gains_long = search rules; rule = c.requires.fact_3 })

pub slice_bounds-answered-end : goal.slice_bounds-answered-end
slice_bounds-answered-end c =
    let e = c.requires.fact_4 in
    let m = c.loop-k.invariant.numbers_long in
    let t = c.loop-k-test.true in
    omega arith

pub slice_bounds-answered-end-in-loop-k : goal.slice_bounds-answered-end-in-loop-k
slice_bounds-answered-end-in-loop-k c =
    let i = c.loop-k.invariant in
    let x = i.samples_long in
    let m = i.numbers_long in
    let t = c.loop-k-test.true in
    omega arith

pub answered-a-requires : goal.answered-a-requires
answered-a-requires c =
    let i = c.loop-k.invariant in
    let k = c.loop-k.k in
    let e = c.requires.fact_4 in
    let x = i.samples_long in
    let m = i.numbers_long in
    let t = c.loop-k-test.true in
    record {
      fact_1 = c.requires.fact_2;
      fact_2 = i.obeying.rule;
      fact_3 = mid_len (20 * k) (20 * k + 20) c.args.payloads.now (omega arith) ∙ omega arith;
      fact_4 = mid_len (320 * k) (320 * k + 320) c.loop-k.samples (omega arith) ∙ omega arith;
    }

pub bounds-numbers-k : goal.bounds-numbers-k
bounds-numbers-k c = let t = c.loop-k-test.true in let m = c.loop-k.invariant.numbers_long in omega arith

pub loop-k-smaller : goal.loop-k-smaller
loop-k-smaller c =
    let t = c.loop-k-test.true in
    let m = c.loop-k.invariant.numbers_long in
    omega arith

pub loop-k-preserved : goal.loop-k-preserved
loop-k-preserved c =
    let a = c.answered-a in
    let s = c.args in
    let b = c.loop-k in
    let t = c.loop-k-test.true in
    let m = b.invariant.numbers_long in
    coming_less s.words.now s.bytes.now s.start s.payloads.now s.samples.now (length s.numbers.now) c.requires.fact_1 b.state b.samples b.numbers b.k b.invariant (omega arith) a.result a.new.samples a.ensures.answer a.ensures.samples a.auto.samples

pub shape_of-samples : goal.shape_of-samples
shape_of-samples c = c.loop-k.invariant.samples_long ∙ sym c.requires.fact_5

pub shape_of-numbers : goal.shape_of-numbers
shape_of-numbers c = c.loop-k.invariant.numbers_long

pub returns : goal.returns
returns c =
    let s = c.args in
    let b = c.loop-k in
    let m = b.invariant.numbers_long in
    let l = c.loop-k-test.false in
    let r = coming_none s.words.now s.bytes.now s.start s.payloads.now s.samples.now (length s.numbers.now) b.state b.samples b.numbers b.k c.requires.fact_4 b.invariant (omega arith) in
    record { state = r.0; samples = r.1; numbers = r.2 }
