-- The excitation is, by turn n, rewritten in n places; each sample comes from at most 153 and at least 10 before it.
use native.Mathlib.Omega.{arith}
use mathlib.Core.List.{List}
use mathlib.Core.Path.{◌≡◌, refl, sym, ◌∙◌, ap}
use Prim.Native.Nat.{ℕ, ◌+◌, ◌-◌}
use lib.IntN.{ℤ, pos}
use lib.ListN.{take, drop, length-set}
use mir.Syntax.{w16, w64}
use mir.Val.{to_z, of_z}
use Rattle.sequence.specs.Count.{count}
use Rattle.sequence.specs.Rewritten.{rewritten, rewritten_again, rewritten_end}
use Rattle.fixed.specs.Fixed as Fixed
use Rattle.fixed.specs.Clips.{ends}
use Rattle.fixed.specs.Machine.{back}
use Rattle.adaptive.specs.Window as Window
use Rattle.adaptive.proofs.Again.{clipped_again, none_predicted}
use Rattle.adaptive.proofs.PhaseTaps.predict_from.Invariants.{by}
use Rattle.adaptive.proofs.PhaseTaps.predict_from.Goals as goal
use Rattle.adaptive.proofs.PhaseTaps.predict_from.Goals.{After-hi-y}

pub loop-n-init : goal.loop-n-init
unfolding rewritten
loop-n-init c = (omega arith, refl, refl)

pub interpolated_sample-value-requires : goal.interpolated_sample-value-requires
interpolated_sample-value-requires c = omega arith

-- a turn
module _ (c : goal.After-hi-y) where
  abbrev n : ℕ
  n = c.loop-n.n

  y_is : to_z w16 (of_z w16 c.hi-y.result) ≡ Window.predicted c.args.self.now.window c.args.delay c.args.at n c.loop-n.exc
  unfolding Window.predicted
  y_is =
      let i = c.interpolated_sample-value in
      let v = c.fold in
      let t = c.sat in
      let e = back w64 v.result v.type_inv ∙ simp (back w64 i.result i.type_inv) at v.ensures ∙ ap (λ (z : ℤ). Fixed.fold z (pos 32768)) i.ensures in
      back w16 c.hi-y.result c.hi-y.type_inv ∙ simp (back w64 t.result t.type_inv) at c.hi-y.ensures ∙ ap (λ (z : ℤ). Fixed.hi z) (t.ensures ∙ ap (λ (z : ℤ). Fixed.sat z) e)

pub loop-n-preserved : goal.loop-n-preserved
loop-n-preserved c =
    let place = c.args.at + n c in
    (omega arith, length-set c.loop-n.exc place _ ∙ c.loop-n.invariant.1, rewritten_again _ c.args.at c.args.exc.now (n c) c.loop-n.exc _ c.loop-n.invariant.2 (y_is c))

-- where the loop ends
pub returns-then-ends-eq0 : goal.returns-then-ends-eq0
returns-then-ends-eq0 c =
    let a = c.args in
    let all : c.loop-n.exc ≡ by a.self.now.window a.delay a.at a.exc.now 80 = rewritten_end _ a.at a.exc.now c.loop-n.invariant.0 (omega arith) c.loop-n.invariant.2 in
    let w : a.at + 80 - a.at ≡ 80 = omega arith in
    let e : ends (take 80 (drop a.at (by a.self.now.window a.delay a.at a.exc.now 80))) ≡ 0 =
    sym (ap (λ (x : List ℤ). ends (take 80 (drop a.at x))) all) ∙ sym (c.ends.ensures ∙ ap (λ (k : ℕ). ends (take k (drop a.at c.loop-n.exc))) w) ∙ c.if-ends-eq0.true in
    record {
      samples = all;
      clipped = sym (none_predicted a.self.now.window a.delay a.at a.exc.now c.requires.2 (omega (arith, c.requires)) c.requires.1 e);
    }

pub predict_clipped-requires : goal.predict_clipped-requires
predict_clipped-requires c =
    let r = c.requires in
    (r.0, omega (arith, c.loop-n.invariant.1, r.1), r.2, r.3)

pub returns : goal.returns
returns c =
    let a = c.args in
    let all : c.loop-n.exc ≡ by a.self.now.window a.delay a.at a.exc.now 80 = rewritten_end _ a.at a.exc.now c.loop-n.invariant.0 (omega arith) c.loop-n.invariant.2 in
    record {
      samples = all;
      clipped =
          c.predict_clipped.ensures
          ∙ ap (λ (x : List ℤ). count (λ (n : ℕ). Fixed.clips (Window.predicted_sum a.self.now.window a.delay a.at n x)) 80) all
          ∙ clipped_again a.self.now.window a.delay a.at a.exc.now c.requires.2 (omega (arith, c.requires));
    }
