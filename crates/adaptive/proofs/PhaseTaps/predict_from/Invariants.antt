use mathlib.Core.List.{List}
use mathlib.Core.Path.{◌≡◌}
use Prim.Native.Nat.{ℕ, ◌≤◌}
use lib.IntN.{ℤ}
use lib.ListN.{length}
use Rattle.sequence.specs.Rewritten.{rewritten}
use Rattle.adaptive.specs.Window as Window
use Rattle.adaptive.proofs.PhaseTaps.predict_from.Given as goal

-- the excitation by turn n
abbrev pub by : List ℤ → ℕ → ℕ → List ℤ → ℕ → List ℤ
by taps delay start exc n = rewritten (Window.predicted taps delay start) start exc n

abbrev pub invariant-loop-n : goal.invariant-loop-n
invariant-loop-n l = (l.n ≤ 80) × (length l.exc ≡ length l.initial.exc) × (l.exc ≡ by l.self.window l.delay l.at l.initial.exc l.n)
