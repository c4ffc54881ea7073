use mathlib.Core.Bool.{Bool}
use mathlib.Core.List.{List}
use mathlib.Core.Path.{◌≡◌}
use Prim.Native.Nat.{ℕ, ◌≤◌}
use lib.IntN.{ℤ}
use Rattle.sequence.specs.Count.{count}
use Rattle.fixed.specs.Fixed as Fixed
use Rattle.adaptive.specs.Window as Window
use Rattle.adaptive.proofs.PhaseTaps.predict_clipped.Given as goal

-- whether sample n is clipped
abbrev pub test : List ℤ → List ℤ → ℕ → ℕ → ℕ → Bool
test taps exc start delay n = Fixed.clips (Window.predicted_sum taps delay start n exc)

abbrev pub invariant-loop-n : goal.invariant-loop-n
invariant-loop-n l = (l.n ≤ 80) × (l.clipped ≡ count (test l.self.window l.exc l.at l.delay) l.n)
