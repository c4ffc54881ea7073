-- The excitation is, by turn n, rewritten in n places.
use borrow.Author.Rules.{rules}
use native.Mathlib.Nat.{le_refl}
use native.Mathlib.Omega.{arith}
use mathlib.Core.List.{List}
use mathlib.Core.Path.{◌≡◌, refl, sym, ap, ◌∙◌}
use Prim.Native.Nat.{ℕ, ◌+◌, ◌-◌}
use lib.IntN.{ℤ, pos}
use lib.ListN.{get_or, take, drop, replicate, get_or-replicate, length-set}
use lib.Seq.{get_or-take, get_or-drop}
use mir.Syntax.{w16}
use mir.Val.{SFits, to_z, of_z}
use mir.ValLaws.{to_z-of_z}
use Rattle.sequence.specs.Rewritten.{rewritten, rewritten_again, rewritten_end, get_or_rewritten_later}
use Rattle.fixed.specs.Clips.{ends}
use Rattle.fixed.specs.Machine.{back}
use Rattle.half.specs.Core as Spec
use Rattle.mixing.proofs.Mixing.{none_mixed, part_clipped}
use Rattle.mixing.proofs.mix.Goals as goal
use Rattle.mixing.proofs.mix.Goals.{After-loop-n, After-mixed-y}

pub loop-n-init : goal.loop-n-init
unfolding rewritten
loop-n-init c = (omega arith, refl, refl)

-- a turn: the predicted sample, and what it is mixed to
module _ (c : goal.After-mixed-y) where
  abbrev n : ℕ
  n = c.loop-n.n

  -- the sample at its place is still the predicted one
  x_is : get_or c.part-predicted.result n (pos 0) ≡ get_or c.loop-n.exc (c.args.start + n) (pos 0)
  unfolding Spec.part
  x_is =
      ap (λ (e : List ℤ). get_or e n (pos 0)) c.part-predicted.ensures
      ∙ get_or-take 80 (drop c.args.start c.args.exc.now) n (pos 0) (omega arith)
      ∙ get_or-drop c.args.start c.args.exc.now n (pos 0)
      ∙ sym (get_or_rewritten_later _ c.args.start c.args.exc.now n (c.args.start + n) (pos 0) (le_refl _))
      ∙ sym (ap (λ (e : List ℤ). get_or e (c.args.start + n) (pos 0)) c.loop-n.invariant.2)

  abbrev read : ℤ → ℤ
  read z = to_z w16 (of_z w16 z)

  -- a gain is the same for each sample
  gain_is : (z : ℤ) → SFits w16 z → read (get_or (replicate 80 (read z)) n (pos 0)) ≡ read z
  gain_is z f = ap read (get_or-replicate 80 n (read z) (pos 0) (omega arith) ∙ to_z-of_z w16 z f)

  y_is : read c.mixed-y.result ≡ Spec.mixed_at (read c.args.pitch_gain) (read c.args.code_gain) c.args.innovation.now c.args.start n c.loop-n.exc
  y_is =
      let m = c.mixed-y in
      let p = gain_is c.args.pitch_gain c.ranges.pitch_gain in
      let g = gain_is c.args.code_gain c.ranges.code_gain in
      let x = to_z-of_z w16 _ (search rules) ∙ x_is in
      let v = to_z-of_z w16 (get_or c.args.innovation.now n (pos 0)) (search rules) in
      back w16 m.result m.type_inv ∙ m.ensures ∙ (λ i. Spec.mixed (p i) (g i) (x i) (v i))

pub loop-n-preserved : goal.loop-n-preserved
loop-n-preserved c =
    (omega arith, length-set c.loop-n.exc (c.args.start + n c) _ ∙ c.loop-n.invariant.1, rewritten_again _ c.args.start c.args.exc.now (n c) c.loop-n.exc _ c.loop-n.invariant.2 (y_is c))

-- where the loop ends
mixed_all : (c : goal.After-loop-n) → c.loop-n.exc ≡ Spec.mix c.args.pitch_gain c.args.code_gain c.args.innovation.now c.args.start c.args.exc.now
unfolding Spec.mix
mixed_all c =
    rewritten_end _ c.args.start c.args.exc.now c.loop-n.invariant.0 (omega arith) c.loop-n.invariant.2 ∙ simp (to_z-of_z w16 _ c.ranges.pitch_gain, to_z-of_z w16 _ c.ranges.code_gain)

pub returns-then-ends-eq0 : goal.returns-then-ends-eq0
returns-then-ends-eq0 c =
    let a = c.before.before.before in
    let w : a.args.start + 80 - a.args.start ≡ 80 = omega arith in
    let e : ends (take 80 (drop a.args.start (Spec.mix a.args.pitch_gain a.args.code_gain a.args.innovation.now a.args.start a.args.exc.now))) ≡ 0 =
    sym (ap (λ (x : List ℤ). ends (take 80 (drop a.args.start x))) (mixed_all a)) ∙ sym (c.ends.ensures ∙ ap (λ (k : ℕ). ends (take k (drop a.args.start a.loop-n.exc))) w) ∙ c.if-ends-eq0.true in
    record {
      samples = mixed_all a;
      clipped = sym (none_mixed a.args.pitch_gain a.args.code_gain a.args.innovation.now a.args.start a.args.exc.now a.requires e);
    }

pub returns : goal.returns
returns c =
    let a = c.before.before.before.before.before in
    record {
      samples = mixed_all a;
      clipped = simp (to_z-of_z w16 _ a.ranges.pitch_gain, to_z-of_z w16 _ a.ranges.code_gain) at c.mix_clipped.ensures ∙ ap (Spec.mix_clipped a.args.pitch_gain a.args.code_gain a.args.innovation.now 0) a.part-predicted.ensures ∙ part_clipped a.args.pitch_gain a.args.code_gain a.args.innovation.now a.args.start a.args.exc.now;
    }
