-- A turn is one sample, which is among the 80 and of the shape's 20.
use native.Mathlib.Omega.{arith}
use borrow.Author.Rules.{rules}
use mathlib.Core.Path.{◌≡◌, refl, ap, ◌∙◌}
use Prim.Native.Nat.{◌+◌, ◌<◌}
use lib.IntN.{ℤ, pos}
use lib.ListN.{get_or}
use mir.Syntax.{w16}
use mir.Val.{to_z, of_z}
use Rattle.sequence.specs.Rewritten.{rewritten, rewritten_again, rewritten_end}
use Rattle.fixed.specs.Machine.{back}
use Rattle.code_index.specs.Codebook as Codebook
use Rattle.codebook.proofs.place_shape.Goals as goal
use Rattle.codebook.proofs.place_shape.Goals.{In-loop-n}

pub loop-n-init : goal.loop-n-init
unfolding rewritten
loop-n-init c = (omega arith, refl)

-- the sample's place, and its place in the shape
inside : (c : goal.In-loop-n) → c.before.before.before.args.start + c.before.loop-n.n < 80
inside c = omega (arith, c.before.before.span-end.ensures)

below : (c : goal.In-loop-n) → c.before.loop-n.n < 20
below c = omega (arith, c.before.before.span-end.ensures)

pub overflow_add-start : goal.overflow_add-start
overflow_add-start c = omega (arith, inside c)

pub offset_bounds-code-start : goal.offset_bounds-code-start
offset_bounds-code-start c = omega (arith, inside c)

pub bounds-code-start : goal.bounds-code-start
bounds-code-start c = inside c

pub overflow_add-shape-in-loop-n : goal.overflow_add-shape-in-loop-n
overflow_add-shape-in-loop-n c = omega (arith, below c.before)

pub word-requires : goal.word-requires
word-requires c = omega (arith, below c.before)

pub overflow_add-y : goal.overflow_add-y
overflow_add-y c = omega (arith, inside c.before.before.before)

pub offset_bounds-code-start-in-loop-n : goal.offset_bounds-code-start-in-loop-n
offset_bounds-code-start-in-loop-n c = omega (arith, inside c.before.before.before)

pub bounds-code-start-in-loop-n : goal.bounds-code-start-in-loop-n
bounds-code-start-in-loop-n c = inside c.before.before.before

pub overflow_step-n : goal.overflow_step-n
overflow_step-n c = omega (arith, below c.before.before.before)

pub loop-n-preserved : goal.loop-n-preserved
loop-n-preserved c =
    let l = c.before.before.before.before in
    let a = l.before.before.args in
    let code = l.loop-n.code in
    let n = l.loop-n.n in
    let x : ℤ = get_or code (a.start + n) (pos 0) in
    let x_back : to_z w16 (of_z w16 x) ≡ x = back w16 x (search rules) in
    let y_back = back w16 c.before.word.result c.before.word.type_inv in
    let e : to_z w16 (of_z w16 c.sum-y.result) ≡ Codebook.shaped a.words.now a.shape a.start a.add n code =
    back w16 c.sum-y.result c.sum-y.type_inv ∙ simp (x_back, y_back) at c.sum-y.ensures ∙ ap (λ (z : ℤ). Codebook.sum a.add x z) c.before.word.ensures in
    (omega arith, rewritten_again _ a.start a.code.now n code _ l.loop-n.invariant.1 e)

pub returns : goal.returns
unfolding Codebook.place_shape
returns c =
    let l = c.before in
    let e = l.before.span-end.ensures in
    rewritten_end _ _ _ (rw e at l.loop-n.invariant.0) (rw e at c.loop-n-test.false) l.loop-n.invariant.1
