-- By turn n the count is that of n sums.
use native.Mathlib.Omega.{arith}
use mathlib.Core.Bool.{Bool}
use mathlib.Core.Path.{◌≡◌, sym, ◌∙◌, ap}
use Prim.Native.Nat.{ℕ, ◌+◌}
use lib.IntN.{ℤ, pos}
use mir.Syntax.{w64}
use Rattle.sequence.specs.Count.{one, count, count_none, count_again, count_end, count_le}
use Rattle.fixed.specs.Clips.{one_of}
use Rattle.fixed.specs.Fixed as Fixed
use Rattle.fixed.specs.Machine.{back}
use Rattle.adaptive.specs.Window as Window
use Rattle.adaptive.proofs.PhaseTaps.predict_clipped.Invariants.{test}
use Rattle.adaptive.proofs.PhaseTaps.predict_clipped.Goals as goal
use Rattle.adaptive.proofs.PhaseTaps.predict_clipped.Goals.{After-from-clipped, At-loop-n, Start}

pub loop-n-init : goal.loop-n-init
loop-n-init c = (omega arith, sym (count_none _))

-- a turn: the sum and the count
module _ (c : goal.After-from-clipped) where
  abbrev l : goal.At-loop-n
  l = c.before.before.before.before.before

  abbrev s : goal.Start
  s = l.before

  abbrev n : ℕ
  n = l.loop-n.n

  abbrev f : ℕ → Bool
  f = test s.args.self.now.window s.args.exc.now s.args.at s.args.delay

  counted : l.loop-n.clipped + c.from-clipped.result ≡ count f (n + 1)
  unfolding Window.predicted_sum
  counted =
      let i = c.before.before.before.interpolated_sample-value in
      let v = c.before.before.fold in
      let e = back w64 v.result v.type_inv ∙ simp (back w64 i.result i.type_inv) at v.ensures ∙ ap (λ (z : ℤ). Fixed.fold z (pos 32768)) i.ensures in
      count_again f n l.loop-n.invariant.1 (c.from-clipped.ensures ∙ one_of c.before.clips.result ∙ ap one (c.before.clips.ensures ∙ ap Fixed.clips e))

pub overflow_add-clipped : goal.overflow_add-clipped
overflow_add-clipped c = omega (arith, counted c, count_le (f c) (n c + 1))

pub loop-n-preserved : goal.loop-n-preserved
loop-n-preserved c = (omega arith, counted c)

pub returns : goal.returns
returns c = count_end _ c.before.loop-n.invariant.0 (omega arith) c.before.loop-n.invariant.1
